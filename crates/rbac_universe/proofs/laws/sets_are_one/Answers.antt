use Rattle.rbac_universe.proofs.OneUniverse.{one_sets}
use Rattle.rbac_universe.proofs.laws.sets_are_one.Goals as goal

pub returns : goal.returns
returns c = one_sets
