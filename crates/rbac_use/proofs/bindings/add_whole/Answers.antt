use Rattle.std.proofs.lemmas.Bool.{both_ways}
use Rattle.rbac_use.specs.Adding.{line_at}
use Rattle.rbac_use.specs.Used.{HasPermissions}
use Rattle.rbac_use.specs.declared.unused.Part.TheVariants.{Whole}
use Rattle.rbac_use.proofs.Exact.{line_if, line_unless}
use Rattle.rbac_use.proofs.bindings.add_whole.Goals as goal

pub returns-in_ok-push : goal.returns-in_ok-push
returns-in_ok-push c =
    line_if (HasPermissions c.args.policy.now c.args.place) (line_at c.args.place Whole) c.args.found.now.items c.push.new.self.items (c.has_permissions.ensures.0 c.if-has_permissions.true) c.in_ok-push.ensures.items

pub returns-else-has_permissions : goal.returns-else-has_permissions
returns-else-has_permissions c =
    line_unless (HasPermissions c.args.policy.now c.args.place) (line_at c.args.place Whole) c.args.found.now.items (λ h. both_ways _ c.if-has_permissions.false (c.has_permissions.ensures.1 h))
