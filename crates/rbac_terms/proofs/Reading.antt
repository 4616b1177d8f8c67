-- what stands at a place of a list, and what some item of it has
use Rattle.std.proofs.Common.{◌≡◌, ℕ, ◌+◌, ◌<◌, List, [], ◌∷◌, ◌++◌, length, slice_get, suc, zero, refl, sym, ap, ◌∙◌, subst, ◌⊎◌, inl, inr, arith, Any, Contains}
use Rattle.std.specs.Prelude.{Some}
use Rattle.std.proofs.lemmas.Bool.{cases_lt}
use Rattle.std.proofs.lemmas.List.{length_push, get_or_append_left, get_or_push}
use Rattle.std.proofs.lemmas.Option.{slice_get_within, get_or_from_slice_get}

pub read_some : {X : Type 0} (xs : List X) (i : ℕ) → i < length xs → (x : X) × (slice_get xs i ≡ Some x)
read_some (x ∷ xs) zero lt = (x, refl)
read_some (x ∷ xs) (suc i) lt = read_some xs i (omega arith)
read_some [] i lt = absurd (omega arith)

pub read_left : {X : Type 0} (xs ys : List X) (i : ℕ) → i < length xs → slice_get (xs ++ ys) i ≡ slice_get xs i
read_left [] ys i l = absurd (omega arith)
read_left (x ∷ xs) ys zero l = refl
read_left (x ∷ xs) ys (suc i) l = read_left xs ys i (omega arith)

pub read_right : {X : Type 0} (xs ys : List X) (i j : ℕ) → i ≡ length xs + j → slice_get (xs ++ ys) i ≡ slice_get ys j
read_right [] ys i j e = let same : i ≡ j = omega arith in ap (slice_get ys) same
read_right (x ∷ xs) ys zero j e = absurd (omega arith)
read_right (x ∷ xs) ys (suc i) j e = read_right xs ys i j (omega arith)

pub contains_read : {X : Type 0} (xs : List X) (k : ℕ) (x : X) → slice_get xs k ≡ Some x → Contains xs x
contains_read xs k x e = (k, slice_get_within xs k x e, get_or_from_slice_get xs k x x e)

-- of a list that one more was added to, some item has what an earlier one or that one has
pub any_pushed : {X : Type 0} (P : X → Type 0) (xs : List X) (x : X) → Any P (xs ++ x ∷ []) → Any P xs ⊎ P x
any_pushed P xs x (k, y, l, at, h) =
    elim (cases_lt k (length xs)) [
      | inl lt ↦ inl (k, y, lt, sym (get_or_append_left xs (x ∷ []) y k lt) ∙ at, h)
      | inr ge ↦ let e : length xs ≡ k = omega (arith, length_push xs x) in let same : x ≡ y = sym (get_or_push xs x y k e) ∙ at in inr (subst P (sym same) h)
    ]

pub any_kept : {X : Type 0} (P : X → Type 0) (xs : List X) (x : X) → Any P xs → Any P (xs ++ x ∷ [])
any_kept P xs x (k, y, l, at, h) = (k, y, omega (arith, length_push xs x), get_or_append_left xs (x ∷ []) y k l ∙ at, h)
