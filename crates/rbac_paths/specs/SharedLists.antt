-- Lists that several places share.
use Rattle.std.specs.Prelude.{◌≡◌, ◌<◌, ℕ, List, [], length, slice_index_or}

-- the place of the list of whatever has this place; past the last one, the place itself
abbrev pub list_of : List ℕ → ℕ → ℕ
list_of places at = slice_index_or places at at

-- each of the first `count` places has a list of which this holds, which may be that of a place
-- before: `places` has the places of the lists
pub record AreShared (X : Type 0) (Has : ℕ → List X → Type 0) (count : ℕ) (lists : List (List X))
    (places : List ℕ) : Type 0 where
  pub lists_len : length lists ≡ count
  pub places_len : length places ≡ count
  pub within : (at : ℕ) → at < count → list_of places at < count
  pub each : (at : ℕ) → at < count → Has at (slice_index_or lists (list_of places at) [])
