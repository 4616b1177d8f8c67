use Rattle.std.specs.Prelude.{ℕ, List, codes}
use Rattle.rbac_universe.specs.declared.fault.UniverseFault.{UniverseFault}
use Rattle.rbac_universe.specs.declared.fault.UniverseFault.TheVariants.{BadTarget}
use Rattle.rbac_universe.specs.declared.fault.UniverseFault.TheVariants.{TooLarge, NoMemory}

-- how a fault is printed: the number and name of the refusal; out of memory without a number (own)
abbrev pub fault_text : UniverseFault → List ℕ
fault_text BadTarget = codes "P3 bad target"
fault_text TooLarge = codes "P4 universe too large"
fault_text NoMemory = codes "out of memory"
