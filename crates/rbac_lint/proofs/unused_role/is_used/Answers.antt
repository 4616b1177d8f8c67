use Rattle.std.proofs.Common.{inl, inr}
use Rattle.std.proofs.lemmas.Bool.{both_ways}
use Rattle.rbac_lint.proofs.Flags.{used_iff}
use Rattle.rbac_lint.proofs.unused_role.is_used.Goals as goal

pub returns-then-named-place : goal.returns-then-named-place
returns-then-named-place c = λ s here.
    let i = used_iff c.args.policy.now.held c.args.named.now c.args.place s c.requires.named here in
    (λ t. i.0 (inl t), λ u. c.if-named-place.true)

pub returns-else-named-place : goal.returns-else-named-place
returns-else-named-place c = λ s here.
    let i = used_iff c.args.policy.now.held c.args.named.now c.args.place s c.requires.named here in (
      λ t. i.0 (inr (c.is_reached.ensures.0 t)),
      λ u. elim (i.1 u) [
        | inl v ↦ absurd (both_ways _ c.if-named-place.false v)
        | inr r ↦ c.is_reached.ensures.1 r
      ],
    )
