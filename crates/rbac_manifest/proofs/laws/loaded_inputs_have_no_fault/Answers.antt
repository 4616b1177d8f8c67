use Rattle.rbac_manifest.proofs.OneLoad.{no_fault}
use Rattle.rbac_manifest.proofs.laws.loaded_inputs_have_no_fault.Goals as goal

pub returns : goal.returns
returns c = no_fault c.kept_objects_are_one.ensures c.grants_are_one_list.ensures
