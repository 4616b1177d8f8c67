use Rattle.std.proofs.Common.{Ok}
use Rattle.rbac_command.specs.App.{with_groups, with_who}
use Rattle.rbac_command.proofs.Steps.{from, rule_from}
use Rattle.rbac_command.proofs.build.paths.Goals as goal

pub returns-clause-app : goal.returns-clause-app
returns-clause-app c =
    let groups = from (Ok c.named-command.result) c.with_groups-command.result with_groups _ c.named-command.ensures.app c.with_groups-command.ensures.app in
    let steps = rule_from c.with_groups-command.result c.with-command.result _ _ _ groups c.steps_arg.ensures.rule c.with-command.ensures.app in
    let to = rule_from c.with-command.result c.with-command-2.result _ _ _ steps c.to_arg.ensures.rule c.with-command-2.ensures.app in
    let namespace = rule_from c.with-command-2.result c.with-command-3.result _ _ _ to c.namespace_arg.ensures.rule c.with-command-3.ensures.app in
    from c.with-command-3.result c.with_who.result with_who _ namespace c.with_who.ensures.app
