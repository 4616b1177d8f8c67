-- The elements of a mapped list, and their order.
use Rattle.std.proofs.Common.{◌≡◌, ◌∙◌, ◌<◌, ◌⊎◌, ℕ, All, List, [], ◌∷◌, AllPairs, Contains, IsSome, None, Option, Some, ap, arith, false, get_or, inl, inr, length, map, refl, slice_get, subst, suc, true, zero}
use Rattle.std.specs.Option.{option_map}
use Rattle.std.proofs.lemmas.List.Elements.{All-map}
use Rattle.std.proofs.lemmas.List.Kept.{AllPairs-cons}
use Rattle.std.proofs.lemmas.Option.{get_or_from_slice_get, slice_get-map, slice_get_read, slice_get_within}

pub some_is : {X : Type 0} (o : Option X) → IsSome o → (x : X) × (o ≡ Some x)
some_is None is = absurd (let both : false ≡ true = is in cc)
some_is (Some x) is = (x, refl)

pub one_element : {X : Type 0} (x y : X) → Contains (x ∷ []) y → x ≡ y
one_element x y (zero, low, e) = e
one_element x y (suc k, low, e) = absurd (omega (arith, low))

pub is_element : {X : Type 0} (x y : X) → x ≡ y → Contains (x ∷ []) y
is_element x y e = (0, omega arith, e)

module _ {X Y : Type 0} (f : X → Y) where
  in_cons : (y : Y) (ys : List Y) (z : Y) → Contains (y ∷ ys) z → (y ≡ z) ⊎ Contains ys z
  in_cons y ys z (zero, low, e) = inl e
  in_cons y ys z (suc k, low, e) = inr (k, omega arith, e)

  pub contains_map : (xs : List X) (y : Y) → Contains (map f xs) y → (x : X) × Contains xs x × (f x ≡ y)
  contains_map [] y w = absurd (omega (arith, w.1))
  contains_map (x ∷ xs) y w = elim (in_cons (f x) (map f xs) y w) [
    | inl e ↦ (x, (0, omega arith, refl), e)
    | inr v ↦ let r = contains_map xs y v in (r.0, (suc r.1.0, omega (arith, r.1.1), r.1.2), r.2)
  ]

  pub map_contains : (xs : List X) (x : X) → Contains xs x → Contains (map f xs) (f x)
  map_contains [] x w = absurd (omega (arith, w.1))
  map_contains (z ∷ xs) x (zero, low, e) = (0, omega arith, ap f e)
  map_contains (z ∷ xs) x (suc k, low, e) = let w = map_contains xs x (k, omega arith, e) in (suc w.0, omega (arith, w.1), w.2)

  pub pairs_map : (R : Y → Y → Type 0) (xs : List X) → AllPairs (λ a b. R (f a) (f b)) xs → AllPairs R (map f xs)
  pairs_map R [] pairs = λ i j d low within. absurd (omega (arith, within))
  pairs_map R (x ∷ xs) pairs =
      AllPairs-cons R (f x) (map f xs) (All-map (R (f x)) f xs (λ k d within. pairs 0 (suc k) d (omega arith) (omega arith)))
      (pairs_map R xs (λ i j d low within. pairs (suc i) (suc j) d (omega arith) (omega arith)))

  -- the element at a place
  pub mapped_at : (xs : List X) (k : ℕ) (x : X) → k < length xs → x ≡ get_or xs k x → slice_get (map f xs) k ≡ Some (f x)
  mapped_at xs k x low is = slice_get-map f xs k ∙ ap (option_map f) (slice_get_read xs (length xs) k x refl low is)

  pub mapped_has : (P : Y → Type 0) (xs : List X) (k : ℕ) (x : X) → k < length xs → x ≡ get_or xs k x → All P (map f xs) → P (f x)
  mapped_has P xs k x low is all =
      let at = mapped_at xs k x low is in
      subst P (get_or_from_slice_get (map f xs) k (f x) (f x) at) (all k (f x) (slice_get_within (map f xs) k (f x) at))
