use Rattle.std.specs.Prelude.{ℕ, List, codes}
use Rattle.rbac_terms.specs.declared.fault.ModelFault.{ModelFault}
use Rattle.rbac_terms.specs.declared.fault.ModelFault.TheVariants.{EmptyName, BadTarget, NoMemory}

-- how a fault is printed: the number and name of the refusal; out of memory without a number (own)
abbrev pub fault_text : ModelFault → List ℕ
fault_text EmptyName = codes "P1 empty name"
fault_text BadTarget = codes "P3 bad target"
fault_text NoMemory = codes "out of memory"
