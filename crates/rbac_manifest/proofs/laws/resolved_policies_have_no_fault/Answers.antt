use Rattle.rbac_manifest.proofs.OneLoad.{no_too_many}
use Rattle.rbac_manifest.proofs.laws.resolved_policies_have_no_fault.Goals as goal

pub returns : goal.returns
returns c = no_too_many c.kept_objects_are_one.ensures c.grants_are_one_list.ensures
