use Rattle.std.proofs.Common.{◌∙◌}
use Rattle.rbac_paths.proofs.BoundNames.{each_by_words}
use Rattle.rbac_paths.proofs.bound_names.some_binds_each_role.Goals as goal

pub returns : goal.returns
returns c =
    let same = each_by_words c.args.steps.now _ c.in_ok-verb.ensures c.in_ok-escalate.ensures (c.in_ok-group.ensures ∙ c.as_bytes.ensures.value) c.in_ok-roles.ensures c.in_ok-cluster_roles.ensures c.some_is_escalate.ensures c.args.policy.now.held in
    (λ t. same.0 (c.some_rule_binds.ensures.0 t), λ w. c.some_rule_binds.ensures.1 (same.1 w))
