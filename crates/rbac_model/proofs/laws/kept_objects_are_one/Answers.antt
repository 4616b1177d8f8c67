use Rattle.rbac_model.proofs.OneKept.{one_kept}
use Rattle.rbac_model.proofs.laws.kept_objects_are_one.Goals as goal

pub returns : goal.returns
returns c = one_kept
