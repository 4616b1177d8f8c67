use Rattle.std.proofs.Common.{◌≡◌, ◌∙◌, ℕ, ◌+◌, ◌<◌, ◌^◌, sym, ap, refl, inl, inr, ◌∷◌, Option}
use Rattle.std.specs.Prelude.{Result, Ok, Err, Some, SomeIff, IfOk}
use Rattle.std.specs.Result.{result_ok}
use Rattle.std.proofs.lemmas.Bool.{both_ways}
use Rattle.std.proofs.lemmas.Slice.Eq.{bytes_eq-Decides}
use Rattle.rbac_terms.specs.Text.{Text}
use Rattle.rbac_index.specs.Ranks.{IsRankAfter, placed_label}
use Rattle.rbac_index.proofs.ranks.rank_after.Goals as goal
use Rattle.rbac_index.proofs.ranks.rank_after.Goals.{else-last-next-via-then-last-next+else-eq, else-last-next-via-else-last-next}

-- another label has the next rank, if there is one
next_rank : {E : Type 0} (P : Type 0) (rank : ℕ) (last label : Text) (o : Option ℕ) (r : Result ℕ E) → SomeIff o P (rank + 1) → o ≡ result_ok r → (last ≡ label → ⊥) → IfOk r (IsRankAfter rank last label)
next_rank P rank last label o (Ok next) some is other = let s : SomeIff (Some next) P (rank + 1) = rw is at some in inr (other, s.1)
next_rank P rank last label o (Err e) some is other = tt

pub returns-then-eq : goal.returns-then-eq
returns-then-eq c =
    let keys : c.args.last.key.now ≡ c.args.next.key.now = (bytes_eq-Decides c.args.last.key.now c.args.next.key.now).0 (sym c.eq.ensures ∙ c.if-eq.true) in
    inl (ap (λ (once_in : ℕ). once_in ∷ c.args.last.key.now) c.if-last-next.true ∙ ap (λ (key : Text). c.args.next.once_in ∷ key) keys, refl)

pub returns-else-last-next : goal.returns-else-last-next
returns-else-last-next c =
    let last = placed_label c.args.last in
    let label = placed_label c.args.next in
    let other : last ≡ label → ⊥ = elim c.else-last-next.branch [
      | else-last-next-via-then-last-next+else-eq w ↦ λ e.
          let keys : c.args.last.key.now ≡ c.args.next.key.now = cc in
          both_ways _ w.if-eq.false (w.eq.ensures ∙ (bytes_eq-Decides c.args.last.key.now c.args.next.key.now).1 keys)
      | else-last-next-via-else-last-next w ↦ λ e. let same : c.args.last.once_in ≡ c.args.next.once_in = cc in w.if-last-next.false same
    ] in
    next_rank (c.args.rank + 1 < 2 ^ 32) c.args.rank last label c.checked_add.result c.ok_or.result c.checked_add.ensures c.ok_or.ensures.ok_part other
