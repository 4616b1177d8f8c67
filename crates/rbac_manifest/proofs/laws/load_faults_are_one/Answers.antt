use Rattle.rbac_manifest.proofs.OneLoad.{one_fault}
use Rattle.rbac_manifest.proofs.laws.load_faults_are_one.Goals as goal

pub returns : goal.returns
returns c = one_fault
