use Rattle.rbac_paths.proofs.Agreeing.{agree}
use Rattle.rbac_paths.proofs.laws.ways_agree_with_paths.Goals as goal

pub returns : goal.returns
returns c p principals steps who asked paths ways told among are those = agree principals told who among p steps asked paths ways are those
