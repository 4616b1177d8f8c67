use Rattle.rbac_paths.specs.Nodes.{Somebody}
use Rattle.rbac_paths.proofs.OnePath.{one_path_to}
use Rattle.rbac_paths.proofs.laws.one_path_is_one.Goals as goal

pub returns : goal.returns
returns c p principals steps who to scope paths chain other are is too = one_path_to p are.0 steps (Somebody who) paths are.2 to scope chain other is too
