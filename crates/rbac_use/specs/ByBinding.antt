-- The requests that each binding allows.
use Rattle.std.specs.Prelude.{◌≡◌, ◌<◌, ◌⊎◌, ◌++◌, ◌∷◌, [], ℕ, List, length, slice_index_or}
use Rattle.rbac_model.specs.Policies.{PolicyView}
use Rattle.rbac_use.specs.Asked.{AreAskedAt}
use Rattle.rbac_use.specs.declared.request.Request.{Request}

-- the list at that place
abbrev pub list_at : List (List Request) → ℕ → List Request
list_at lists place = slice_index_or lists place []

-- for each binding, exactly those of the requests that it allows
pub record AreAskedByBinding (p : PolicyView) (requests : List Request)
    (lists : List (List Request)) : Type 0 where
  pub len : length lists ≡ length p.held.bindings
  pub each : (place : ℕ) → place < length lists → AreAskedAt p place requests (list_at lists place)

-- the request is added to the list at that place if the place has the property, and only then
abbrev pub IsAddedAt : (ℕ → Type 0) → Request → List (List Request) → List (List Request) → ℕ → Type 0
IsAddedAt P q old new place = (P place × (list_at new place ≡ list_at old place ++ q ∷ []))
    ⊎ ((¬ P place) × (list_at new place ≡ list_at old place))

-- the request is added to exactly the lists at the places that have the property
pub record AddsWhere (P : ℕ → Type 0) (q : Request) (old new : List (List Request)) : Type 0 where
  pub len : length new ≡ length old
  pub each : (place : ℕ) → place < length old → IsAddedAt P q old new place
