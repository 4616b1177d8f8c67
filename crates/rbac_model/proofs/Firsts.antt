-- The first of a list with a property is one.
use Rattle.std.proofs.Common.{◌≡◌, ◌∙◌, ℕ, List, inl, inr, ap, sym}
use Rattle.std.specs.Prelude.{slice_get}
use Rattle.std.proofs.lemmas.Bool.{cases_order}
use Rattle.std.proofs.lemmas.Option.{same_Some}
use Rattle.rbac_model.specs.Lists.{IsFirstAt}

-- it has one place
pub one_place : {X : Type 0} (P : X → Type 0) (xs : List X) (i j : ℕ) (x y : X) → IsFirstAt P xs i x → IsFirstAt P xs j y → i ≡ j
one_place P xs i j x y a b = elim (cases_order i j) [
  | inl e ↦ e
  | inr d ↦ elim d [
    | inl m ↦ absurd (b.none_before i x m a.here a.holds)
    | inr m ↦ absurd (a.none_before j y m b.here b.holds)
  ]
]

-- and so it is one element
pub one_first : {X : Type 0} (P : X → Type 0) (xs : List X) (i j : ℕ) (x y : X) → IsFirstAt P xs i x → IsFirstAt P xs j y → x ≡ y
one_first P xs i j x y a b = same_Some x y (sym a.here ∙ ap (slice_get xs) (one_place P xs i j x y a b) ∙ b.here)
