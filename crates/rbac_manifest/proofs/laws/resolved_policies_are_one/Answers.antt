use Rattle.rbac_manifest.proofs.OneLoad.{one_policy}
use Rattle.rbac_manifest.proofs.laws.resolved_policies_are_one.Goals as goal

pub returns : goal.returns
returns c = one_policy c.kept_objects_are_one.ensures c.grants_are_one_list.ensures
