-- The texts of why a run stopped, as they are printed (own).
use Rattle.std.specs.Prelude.{ℕ, List, ◌++◌, codes}
use Rattle.std.specs.Fmt.{decimal}
use Rattle.rbac_manifest.specs.FaultTexts.{fault_text}
use Rattle.rbac_universe.specs.Faults.{fault_text as universe_fault_text}
use Rattle.rbac_cli.specs.declared.outcome.RunFault.{RunFault}
use Rattle.rbac_cli.specs.declared.outcome.RunFault.TheVariants.{Load, Universe, Memory, Write}

-- the text of a refusal, of running out of memory or of a failed write
abbrev pub run_fault_text : RunFault → List ℕ
run_fault_text (Load fault) = fault_text fault
run_fault_text (Universe fault) = universe_fault_text fault
run_fault_text (Memory n) = codes "out of memory"
run_fault_text (Write n) = codes "write failed after " ++ decimal n ++ codes " bytes"
