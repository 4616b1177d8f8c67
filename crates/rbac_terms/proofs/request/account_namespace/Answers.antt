use Rattle.std.proofs.Common.{refl}
use Rattle.std.proofs.lemmas.Bool.{both_ways}
use Rattle.rbac_terms.proofs.Accounts.{IsAccountOf-begins, IsAccountOf-colon, IsAccountOf-from, IsAccountOf-iff, IsAccountOf-parts}
use Rattle.rbac_terms.proofs.request.account_namespace.Goals.{else-is_part-via-then-is_part+else-is_part-2, else-is_part-via-else-is_part}
use Rattle.rbac_terms.proofs.request.account_namespace.Goals as goal

pub returns-in_err-parts : goal.returns-in_err-parts
returns-in_err-parts c = rw c.from_residual.ensures (λ namespace a. c.in_err-parts.ensures (IsAccountOf-begins _ namespace a))

pub returns-in_err-namespace : goal.returns-in_err-namespace
returns-in_err-namespace c = rw c.from_residual-in_err-namespace.ensures (λ namespace a. c.in_err-namespace.ensures (IsAccountOf-colon _ _ namespace c.in_ok-parts.ensures a))

pub returns-then-is_part-2 : goal.returns-then-is_part-2
returns-then-is_part-2 c =
    IsAccountOf-iff c.args.user.now c.in_ok-namespace.namespace.now
    (IsAccountOf-from c.args.user.now c.in_ok-parts.parts.now c.in_ok-namespace.namespace.now c.in_ok-namespace.name.now
    c.in_ok-parts.ensures c.in_ok-namespace.ensures (c.if-is_part.ensures.0 refl) (c.if-is_part-2.ensures.0 refl))

pub returns-else-is_part : goal.returns-else-is_part
returns-else-is_part c = λ namespace a.
    let parts = IsAccountOf-parts c.args.user.now c.in_ok-parts.parts.now namespace c.in_ok-namespace.namespace.now c.in_ok-namespace.name.now c.in_ok-parts.ensures c.in_ok-namespace.ensures a in
    elim c.else-is_part.branch [
      | else-is_part-via-then-is_part+else-is_part-2 w ↦ both_ways _ w.if-is_part-2.false (w.is_part-then-is_part.ensures.1 parts.1)
      | else-is_part-via-else-is_part w ↦ both_ways _ w.if-is_part.false (c.is_part.ensures.1 parts.0)
    ]
