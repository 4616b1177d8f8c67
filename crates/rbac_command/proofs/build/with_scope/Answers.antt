use Rattle.clap.specs.Words.{App, with_rule}
use Rattle.rbac_command.specs.App.{namespace_rule, all_rule, in_namespace_rule}
use Rattle.rbac_command.proofs.Steps.{rule, and_rule}
use Rattle.rbac_command.proofs.build.with_scope.Goals as goal

pub returns-clause-app : goal.returns-clause-app
returns-clause-app c =
    let namespace = rule c.args.command c.with-command.result _ _ c.namespace_arg.ensures.rule c.with-command.ensures.app in
    let all = and_rule c.args.command c.with-command.result c.with-command-2.result (λ (a : App). with_rule a namespace_rule) _ _ namespace c.all_arg.ensures.rule c.with-command-2.ensures.app in
    let in_namespace = and_rule c.args.command c.with-command-2.result c.with-command-3.result (λ (a : App). with_rule (with_rule a namespace_rule) all_rule) _ _ all c.in_namespace_arg.ensures.rule c.with-command-3.ensures.app in
    and_rule c.args.command c.with-command-3.result c.with.result (λ (a : App). with_rule (with_rule (with_rule a namespace_rule) all_rule) in_namespace_rule) _ _ in_namespace c.subresource_arg.ensures.rule c.with.ensures.app
