-- the seats with which an enumeration begins
use Rattle.std.proofs.Common.{◌≡◌, ℕ, suc, ◌+◌, ◌<◌, ◌≤◌, ◌⊎◌, List, [], ◌∷◌, length, min, sum_by, refl, ◌∙◌, sym, arith, subst, inl, inr}
use Rattle.std.specs.Prelude.{Some, slice_get}
use Rattle.std.proofs.lemmas.List.Sums.{sum_by-cons}
use Rattle.std.proofs.lemmas.Option.{same_Some}
use Rattle.rbac_model.specs.Lists.{IsCount}
use Rattle.rbac_model.specs.Policies.{PolicyView}
use Rattle.rbac_model.specs.Universes.{UniverseView, IsCursor}
use Rattle.rbac_matrix.specs.Lines.{IsSettled, LineView, lines_from}
use Rattle.rbac_matrix.specs.Metering.{AreSought, IsReady}
use Rattle.rbac_matrix.specs.declared.line.Place.{Place}
use Rattle.rbac_matrix.specs.declared.seat.Seat.{Seat}
use Rattle.rbac_matrix.specs.Seats.{AreSeated, filled, seat_at, stand_of}
use Rattle.rbac_matrix.proofs.PassLemmas.{same_head, no_head}

count_few : {X : Type 0} (P : X → Type 0) (f : Seat → ℕ) → ((s : Seat) → f s ≤ 1) → (gs : List X) (seats : List Seat) (n : ℕ) → length seats ≤ length gs
    → ((k : ℕ) → k < length seats → (f (seat_at seats k) ≡ 0) ⊎ ((g : X) × (slice_get gs k ≡ Some g) × P g)) → IsCount P gs n → sum_by f seats ≤ n
count_few P f one gs [] n le each h = omega arith
count_few P f one [] (s ∷ seats) n le each h = absurd (omega arith)
count_few P f one (g ∷ gs) (s ∷ seats) n le each (inl h) =
    let rest : sum_by f seats ≤ h.1.0 = count_few P f one gs seats h.1.0 (omega arith) (λ k lt. each (suc k) (omega arith)) h.1.2 in
    rw (sum_by-cons f s seats) (omega (arith, one s, h.1.1))
count_few P f one (g ∷ gs) (s ∷ seats) n le each (inr h) =
    let rest : sum_by f seats ≤ n = count_few P f one gs seats n (omega arith) (λ k lt. each (suc k) (omega arith)) h.1 in
    elim (each 0 (omega arith)) [
      | inl none ↦ rw (sum_by-cons f s seats) (omega arith)
      | inr some ↦ absurd (h.0 (subst P (sym (same_Some g some.0 some.1)) some.2))
    ]

-- no more seats are filled than the line has cursors
pub filled_cursors : (p : PolicyView) (l : LineView) (rs : List (List ℕ)) (from upto : ℕ) (seats : List Seat) (n : ℕ) → AreSeated p l rs from upto seats → IsCount (IsCursor l.who l.namespace l.verb) p.grants n → filled seats ≤ n
unfolding filled
filled_cursors p l rs from upto seats n seated h =
    count_few (IsCursor l.who l.namespace l.verb) (λ (s : Seat). min 1 (s.position + stand_of s)) (λ s. omega arith) p.grants seats n (omega (arith, seated.count))
    (λ k lt. elim (seated.each k lt) [
      | inl s ↦ inr (s.0.grant, s.0.at, s.0.is)
      | inr e ↦ inl (rw e.1 refl)
    ]) h

module _ (p : PolicyView) (u : UniverseView) (rs : List (List ℕ)) (at : Place) (from upto : ℕ) (seats : List Seat) (settled : IsSettled u at) where
  pub ready_line : (l : LineView) (ls : List LineView) → lines_from u at ≡ l ∷ ls → AreSeated p l rs from upto seats → IsReady p u rs at from upto seats
  ready_line l ls e s = record {
    settled = settled;
    count = s.count;
    seated = λ m ms other. subst (λ (x : LineView). AreSeated p x rs from upto seats) (same_head l m ls ms (sym e ∙ other)) s;
    ended = λ other. absurd (no_head l ls (sym e ∙ other));
  }

pub sought_filled : (p : PolicyView) (u : UniverseView) (rs : List (List ℕ)) (at : Place) (from upto : ℕ) (seats : List Seat) (l : LineView) (ls : List LineView) → lines_from u at ≡ l ∷ ls → AreSeated p l rs from upto seats → AreSought p u at (filled seats)
sought_filled p u rs at from upto seats l ls e s m ms n other h =
    filled_cursors p l rs from upto seats n s (subst (λ (x : LineView). IsCount (IsCursor x.who x.namespace x.verb) p.grants n) (sym (same_head l m ls ms (sym e ∙ other))) h)
