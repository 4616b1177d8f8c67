use Rattle.rbac_cli.proofs.Loads.{over}
use Rattle.rbac_cli.proofs.running.run.Goals as goal

pub write_answer-requires-clause-over : goal.write_answer-requires-clause-over
write_answer-requires-clause-over g c = over _ _ _ _ c.in_ok-exports.ensures.ok
