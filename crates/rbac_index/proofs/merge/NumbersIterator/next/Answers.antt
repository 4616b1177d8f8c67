use Rattle.std.proofs.Common.{ℕ, ◌+◌, ◌<◌, ◌^◌, All, subst}
use Rattle.std.proofs.lemmas.List.Elements.{All-tail}
use Rattle.rbac_index.proofs.merge.NumbersIterator.next.Goals as goal

pub invariant_of-self : goal.invariant_of-self
invariant_of-self c =
    let P : ℕ → Type 0 = λ start. start + c.self.inside.place < 2 ^ 32 in
    All-tail P c.in_ok-first.first.now c.in_ok-first.others.now (subst (All P) c.in_ok-first.ensures.cases.0 c.self.invariant)
