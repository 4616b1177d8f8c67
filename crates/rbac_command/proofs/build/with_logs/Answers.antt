use Rattle.std.proofs.Common.{Ok}
use Rattle.rbac_command.proofs.Steps.{rule_from}
use Rattle.rbac_command.proofs.build.with_logs.Goals as goal

pub returns-clause-app : goal.returns-clause-app
returns-clause-app c = rule_from (Ok c.named-command.result) c.with.result _ _ _ c.named-command.ensures.app c.log_arg.ensures.rule c.with.ensures.app
