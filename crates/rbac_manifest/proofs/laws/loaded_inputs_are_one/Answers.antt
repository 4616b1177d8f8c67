use Rattle.rbac_manifest.proofs.OneLoad.{one_load}
use Rattle.rbac_manifest.proofs.laws.loaded_inputs_are_one.Goals as goal

pub returns : goal.returns
returns c = one_load c.kept_objects_are_one.ensures c.grants_are_one_list.ensures
