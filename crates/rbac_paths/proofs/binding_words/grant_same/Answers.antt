use Rattle.std.proofs.Common.{◌≡◌, ℕ, arith, get_or, inl, inr, subst, sym}
use Rattle.std.proofs.lemmas.Bool.{cases_lt}
use Rattle.rbac_paths.proofs.SameWords.{TakeAlike, same_words}
use Rattle.rbac_paths.proofs.binding_words.grant_same.Goals as goal

pub loop-place-preserved : goal.loop-place-preserved
loop-place-preserved c k low = elim (cases_lt k c.loop-place.place) [
  | inl less ↦ c.loop-place.invariant k less
  | inr high ↦ (let same : k ≡ c.loop-place.place = omega (arith, low, high) in subst (λ (n : ℕ). TakeAlike c.args.policy.now (get_or c.args.a.now n 0) (get_or c.args.b.now n 0)) (sym same) (c.is_same_grant.ensures c.if-not-is_same_grant.false))
]

pub returns : goal.returns
returns c t =
    same_words c.args.policy.now c.args.a.now c.args.b.now c.if-a-b.false (λ k low. c.loop-place.invariant k (let test = c.loop-place-test.false in let end = c.loop-place.auto.place-end in omega (arith, low, test, end)))
