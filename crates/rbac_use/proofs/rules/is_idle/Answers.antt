use Rattle.std.proofs.Common.{◌≡◌, ◌∙◌, Some, subst, sym}
use Rattle.std.proofs.lemmas.Option.{same_Some}
use Rattle.rbac_terms.specs.declared.matching.Rule.{Rule}
use Rattle.rbac_use.specs.Permissions.{permission_at}
use Rattle.rbac_use.specs.Rules.{IsIdle, use_of}
use Rattle.rbac_use.proofs.rules.is_idle.Goals as goal

pub returns-in-Some : goal.returns-in-Some
returns-in-Some c =
    let u = use_of c.args.used in
    let q = c.in-Some.permission in
    let is : permission_at u.rule c.args.verb c.args.target ≡ Some q = sym c.in_ok-permission.ensures ∙ c.in-Some.is in
    let firsts = c.are_first.ensures.0 c.if-not-are_first.false in (
      λ t. (q, (firsts, is), c.is_unused.ensures.0 t),
      λ w. c.is_unused.ensures.1 (subst (λ (r : Rule). IsIdle u r) (same_Some w.0 q (sym w.1.1 ∙ is)) w.2),
    )
