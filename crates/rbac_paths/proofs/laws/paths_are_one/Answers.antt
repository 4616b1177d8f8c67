use Rattle.rbac_paths.proofs.OneLists.{one_paths_of}
use Rattle.rbac_paths.proofs.laws.paths_are_one.Goals as goal

pub returns : goal.returns
returns c p principals steps who xs others a b = one_paths_of p principals steps who xs others a b
