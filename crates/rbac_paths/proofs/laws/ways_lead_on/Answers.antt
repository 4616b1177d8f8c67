use Rattle.rbac_paths.proofs.OneLists.{lead_on}
use Rattle.rbac_paths.proofs.laws.ways_lead_on.Goals as goal

pub returns : goal.returns
returns c p principals steps asked ways are = lead_on p are.0 steps asked ways are.2
