use Rattle.rbac_paths.proofs.OneLists.{one_ways_to}
use Rattle.rbac_paths.proofs.laws.ways_are_one.Goals as goal

pub returns : goal.returns
returns c p principals steps asked xs others a b = one_ways_to p principals steps asked xs others a b
