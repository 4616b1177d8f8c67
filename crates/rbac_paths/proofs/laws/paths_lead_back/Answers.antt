use Rattle.rbac_paths.specs.Nodes.{Somebody}
use Rattle.rbac_paths.proofs.OneLists.{lead_back}
use Rattle.rbac_paths.proofs.laws.paths_lead_back.Goals as goal

pub returns : goal.returns
returns c p principals steps who paths are = lead_back p are.0 steps (Somebody who) paths are.2
