use Rattle.rbac_universe.proofs.OneUniverse.{no_fault}
use Rattle.rbac_universe.proofs.laws.universes_have_no_fault.Goals as goal

pub returns : goal.returns
returns c = no_fault
