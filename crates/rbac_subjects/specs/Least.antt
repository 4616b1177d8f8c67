-- The least of the places that were taken in, as many as there is room for.
use Rattle.std.specs.Prelude.{◌≡◌, ℕ, ◌<◌, ◌⊎◌, Bool, true, false, List, [], All, Contains}

-- the places that are kept, and whether no other places were taken in
pub record LeastView : Type 0 where
  pub kept : List ℕ
  pub are_all : Bool

-- how many places are kept, at most, and so how many runs of grants
abbrev pub most_kept : ℕ
most_kept = 256

-- nothing was taken in
abbrev pub no_places : LeastView
no_places = record { kept = []; are_all = true }

-- not all places that were taken in are kept, and this place comes after all that are
abbrev pub IsPast : LeastView → ℕ → Type 0
IsPast l place = (l.are_all ≡ false) × All (λ other. other < place) l.kept

-- the place was kept, or has the property
abbrev pub IsKeptOr : (ℕ → Type 0) → LeastView → ℕ → Type 0
IsKeptOr P l place = Contains l.kept place ⊎ P place

-- new is old after the places with the property were taken in
pub record Takes (P : ℕ → Type 0) (old new : LeastView) : Type 0 where
  pub from : (place : ℕ) → Contains new.kept place → IsKeptOr P old place
  pub each : (place : ℕ) → IsKeptOr P old place → IsKeptOr (IsPast new) new place
  pub still : (place : ℕ) → IsPast old place → IsPast new place
  pub others : new.are_all ≡ false
      → (old.are_all ≡ false) ⊎ ((place : ℕ) × IsKeptOr P old place × IsPast new place)
