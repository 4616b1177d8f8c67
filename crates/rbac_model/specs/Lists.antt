use Rattle.std.specs.Prelude.{◌≡◌, ℕ, ◌+◌, ◌<◌, ◌⊎◌, List, [], ◌∷◌, Some, slice_get}
use Rattle.std.specs.List.{HoldsAt, AllWithin}
use Rattle.std.specs.List.Sorted.{IsStrictlySortedBy}
use Rattle.std.specs.declared.cmp.Ordering.{Ordering}
use Rattle.std.specs.declared.cmp.Ordering.TheVariants.{Less, Equal, Greater}
use Rattle.std.specs.Cmp.Lexicographic.{slice_cmp}
use Rattle.std.specs.Prelude.{AllPairs, Contains, ◌↔◌, ◌≢◌, ◌≤◌, length}
use Rattle.rbac_terms.specs.Text.{Text, text_cmp}

-- x is at place i and has the property, and nothing before it has the property
pub record IsFirstAt {X : Type 0} (P : X → Type 0) (xs : List X) (i : ℕ) (x : X) : Type 0 where
  pub here : slice_get xs i ≡ Some x
  pub holds : P x
  pub none_before : (k : ℕ) (y : X) → k < i → slice_get xs k ≡ Some y → ¬ P y

-- n of xs have the property
abbrev pub IsCount : {X : Type 0} → (X → Type 0) → List X → ℕ → Type 0
IsCount P [] n = n ≡ 0
IsCount P (x ∷ xs) n = (P x × ((k : ℕ) × (n ≡ k + 1) × IsCount P xs k)) ⊎ ((¬ P x) × IsCount P xs n)

-- the order of two things by their names, which are lists of texts: text by text, each by its bytes
abbrev pub by_name : {X : Type 0} → (X → List Text) → X → X → Ordering
by_name name x y = slice_cmp text_cmp (name x) (name y)

-- each name is less than each later one
abbrev pub IsAscendingBy : {X : Type 0} → (X → List Text) → List X → Type 0
IsAscendingBy name xs = AllPairs (λ x y. by_name name x y ≡ Less) xs

-- new contains x, and the elements of old whose name isn't x's
abbrev pub IsPut : {X : Type 0} → (X → List Text) → List X → List X → X → Type 0
IsPut {X} name old new x = (y : X) → Contains new y
    ↔ ((y ≡ x) ⊎ (Contains old y × (name y ≢ name x)))

-- the element at place i has x's name
abbrev pub IsAtName : {X : Type 0} → (X → List Text) → List X → X → ℕ → Type 0
IsAtName name xs x i = (i < length xs) × HoldsAt (λ y. by_name name y x ≡ Equal) xs i

-- no element has x's name, and x would go to place i
abbrev pub IsGapForName : {X : Type 0} → (X → List Text) → List X → X → ℕ → Type 0
IsGapForName name xs x i = (i ≤ length xs) × AllWithin (λ y. by_name name y x ≡ Less) xs 0 i
    × AllWithin (λ y. by_name name y x ≡ Greater) xs i (length xs)

-- ys are the elements of xs, each once, ascending
pub record IsOnceEach {X : Type 0} (cmp : X → X → Ordering) (xs ys : List X) : Type 0 where
  pub ascending : IsStrictlySortedBy cmp ys
  pub same : (x : X) → Contains ys x ↔ Contains xs x

-- the places below a bound that have a property, ascending
pub record IsUpTo (P : ℕ → Type 0) (ks : List ℕ) (bound : ℕ) : Type 0 where
  pub ascending : AllPairs (λ a b. a < b) ks
  pub exact : (k : ℕ) → Contains ks k ↔ ((k < bound) × P k)
