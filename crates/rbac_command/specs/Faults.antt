-- How refusals of a command line are printed.
use Rattle.std.specs.Prelude.{List, ℕ, Option, Some, None}
use Rattle.rbac_question.specs.Faults.{fault_text}
use Rattle.rbac_command.specs.declared.fault.UsageFault.{UsageFault}
use Rattle.rbac_command.specs.declared.fault.UsageFault.TheVariants.{Refused, Question}

-- the text of a refusal; a refusal by `clap` has its own text
abbrev pub usage_text : UsageFault → Option (List ℕ)
usage_text (Refused e) = None
usage_text (Question fault) = Some (fault_text fault)
