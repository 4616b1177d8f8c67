-- what is in a list of lists, and in what order
use Rattle.std.proofs.Common.{◌≡◌, List, [], ◌∷◌, ◌++◌, map, get_or, All, Contains, ◌⊎◌, inl, inr, ap, arith, zero, suc, refl}
use Rattle.std.specs.Prelude.{AllPairs}
use Rattle.std.specs.List.{flat_map}
use Rattle.std.proofs.lemmas.List.Elements.{Contains-append_left, Contains-append_right, Contains-append_cases, Contains-get_or, All-append, All-map}
use Rattle.std.proofs.lemmas.List.Kept.{AllPairs-cons}

pub in_cons : {X : Type 0} (x : X) (xs : List X) (y : X) → Contains (x ∷ xs) y → (x ≡ y) ⊎ Contains xs y
in_cons x xs y (zero, l, e) = inl e
in_cons x xs y (suc k, l, e) = inr (k, omega arith, e)

pub here : {X : Type 0} (x : X) (xs : List X) → Contains (x ∷ xs) x
here x xs = (0, omega arith, refl)

pub there : {X : Type 0} (x : X) (xs : List X) (y : X) → Contains xs y → Contains (x ∷ xs) y
there x xs y w = (suc w.0, omega (arith, w.1), w.2)

pub contains_map : {X Y : Type 0} (f : X → Y) (xs : List X) (y : Y) → Contains (map f xs) y → (x : X) × Contains xs x × (f x ≡ y)
contains_map f [] y w = absurd (omega (arith, w.1))
contains_map f (x ∷ xs) y w = elim (in_cons (f x) (map f xs) y w) [
  | inl e ↦ (x, here x xs, e)
  | inr v ↦ let r = contains_map f xs y v in (r.0, there x xs r.0 r.1, r.2)
]

pub map_contains : {X Y : Type 0} (f : X → Y) (xs : List X) (x : X) → Contains xs x → Contains (map f xs) (f x)
map_contains f [] x w = absurd (omega (arith, w.1))
map_contains f (y ∷ xs) x w = elim (in_cons y xs x w) [
  | inl e ↦ (0, omega arith, ap f e)
  | inr v ↦ there (f y) (map f xs) (f x) (map_contains f xs x v)
]

pub contains_flat : {X Y : Type 0} (f : X → List Y) (xs : List X) (y : Y) → Contains (flat_map f xs) y → (x : X) × Contains xs x × Contains (f x) y
contains_flat f [] y w = absurd (omega (arith, w.1))
contains_flat f (x ∷ xs) y w = elim (Contains-append_cases (f x) (flat_map f xs) y w) [
  | inl c ↦ (x, here x xs, c)
  | inr c ↦ let r = contains_flat f xs y c in (r.0, there x xs r.0 r.1, r.2)
]

pub flat_contains : {X Y : Type 0} (f : X → List Y) (xs : List X) (x : X) (y : Y) → Contains xs x → Contains (f x) y → Contains (flat_map f xs) y
flat_contains f [] x y w v = absurd (omega (arith, w.1))
flat_contains f (z ∷ xs) x y w v = elim (in_cons z xs x w) [
  | inl e ↦ Contains-append_left (f z) (flat_map f xs) y (rw e v)
  | inr u ↦ Contains-append_right (f z) (flat_map f xs) y (flat_contains f xs x y u v)
]

none_paired : {X : Type 0} (R : X → X → Type 0) → AllPairs R []
none_paired R i j d lt l = absurd (omega arith)

module _ {X : Type 0} (R : X → X → Type 0) where
  pairs_tail : (x : X) (xs : List X) → AllPairs R (x ∷ xs) → AllPairs R xs
  pairs_tail x xs p i j d lt l = p (suc i) (suc j) d (omega arith) (omega arith)

  pairs_head : (x : X) (xs : List X) → AllPairs R (x ∷ xs) → All (R x) xs
  pairs_head x xs p k d l = p 0 (suc k) d (omega arith) (omega arith)

  pub pairs_append : (xs ys : List X) → AllPairs R xs → AllPairs R ys → ((a b : X) → Contains xs a → Contains ys b → R a b) → AllPairs R (xs ++ ys)
  pairs_append [] ys p q cross = q
  pairs_append (x ∷ xs) ys p q cross =
      AllPairs-cons R x (xs ++ ys)
      (All-append (R x) xs ys (pairs_head x xs p) (λ k d l. cross x (get_or ys k d) (here x xs) (Contains-get_or ys k d l)))
      (pairs_append xs ys (pairs_tail x xs p) q (λ a b w v. cross a b (there x xs a w) v))

  pub pairs_map : {Y : Type 0} (f : Y → X) (ys : List Y) → AllPairs (λ a b. R (f a) (f b)) ys → AllPairs R (map f ys)
  pairs_map f [] p = none_paired R
  pairs_map {Y} f (y ∷ ys) p =
      AllPairs-cons R (f y) (map f ys) (All-map (R (f y)) f ys (λ k d l. p 0 (suc k) d (omega arith) (omega arith)))
      (pairs_map f ys (λ i j d lt l. p (suc i) (suc j) d (omega arith) (omega arith)))

pub pairs_flat : {X Y : Type 0} (R : Y → Y → Type 0) (S : X → X → Type 0) (f : X → List Y) (xs : List X) → ((x : X) → Contains xs x → AllPairs R (f x)) → ((x y : X) → Contains xs x → Contains xs y → S x y → (a b : Y) → Contains (f x) a → Contains (f y) b → R a b) → AllPairs S xs → AllPairs R (flat_map f xs)
pairs_flat R S f [] each cross p = none_paired R
pairs_flat R S f (x ∷ xs) each cross p =
    pairs_append R (f x) (flat_map f xs) (each x (here x xs))
    (pairs_flat R S f xs (λ y w. each y (there x xs y w)) (λ y z w v. cross y z (there x xs y w) (there x xs z v)) (pairs_tail S x xs p))
    (λ a b w v.
    let r = contains_flat f xs b v in
    let less : S x r.0 = rw r.1.2 at (pairs_head S x xs p r.1.0 r.0 r.1.1) in
    cross x r.0 (here x xs) (there x xs r.0 r.1) less a b w r.2)
