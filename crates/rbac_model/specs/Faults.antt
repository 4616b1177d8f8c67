use Rattle.std.specs.Prelude.{ℕ, List, codes}
use Rattle.rbac_model.specs.declared.fault.ResolveFault.{ResolveFault}
use Rattle.rbac_model.specs.declared.fault.ResolveFault.TheVariants.{TooMany, NoMemory}

-- how a fault is printed: the number and name of the refusal; out of memory without a number (own)
abbrev pub fault_text : ResolveFault → List ℕ
fault_text TooMany = codes "P2 too many grants"
fault_text NoMemory = codes "out of memory"
