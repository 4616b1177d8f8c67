use Rattle.std.proofs.lemmas.Bool.{both_ways}
use Rattle.rbac_use.specs.Adding.{line_at}
use Rattle.rbac_use.specs.Rules.{IsIdleAt, use_of}
use Rattle.rbac_use.specs.declared.unused.Part.TheVariants.{Permission}
use Rattle.rbac_use.proofs.Exact.{line_if, line_unless}
use Rattle.rbac_use.proofs.rules.add.Goals as goal

pub returns-in_ok-push : goal.returns-in_ok-push
returns-in_ok-push c =
    let u = use_of c.args.used in
    line_if (IsIdleAt u c.args.verb c.args.target) (line_at u.place (Permission u.number c.args.verb c.args.target)) c.args.found.now.items c.push.new.self.items (c.in_ok-is_idle.ensures.0 c.if-branch.true) c.in_ok-push.ensures.items

pub returns-else-branch : goal.returns-else-branch
returns-else-branch c =
    let u = use_of c.args.used in
    line_unless (IsIdleAt u c.args.verb c.args.target) (line_at u.place (Permission u.number c.args.verb c.args.target)) c.args.found.now.items (λ h. both_ways _ c.if-branch.false (c.in_ok-is_idle.ensures.1 h))
