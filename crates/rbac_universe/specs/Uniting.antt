-- One element for each name, with the texts of all elements of that name.
use Rattle.std.specs.Prelude.{◌≡◌, ◌↔◌, ◌⊎◌, List, Any}
use Rattle.rbac_terms.specs.Text.{Text}
use Rattle.rbac_model.specs.Lists.{IsAscendingBy}

-- some element of that name has that text
abbrev pub HasUnder : {X : Type 0} → (X → List Text) → (X → Text → Type 0) → List X → List Text
    → Text → Type 0
HasUnder name has xs n t = Any (λ x. (name x ≡ n) × has x t) xs

-- one element for each name in the list, in order of names, with what all listed elements of that
-- name have
pub record AreUnitedBy {X : Type 0} (name : X → List Text) (has : X → Text → Type 0)
    (listed united : List X) : Type 0 where
  pub ordered : IsAscendingBy name united
  pub names : (n : List Text) → Any (λ x. name x ≡ n) united ↔ Any (λ x. name x ≡ n) listed
  pub texts : (n : List Text) (t : Text) → HasUnder name has united n t
      ↔ HasUnder name has listed n t

-- new is what old and one more element give, united by name
pub record IsOneMore {X : Type 0} (name : X → List Text) (has : X → Text → Type 0) (old : List X)
    (item : X) (new : List X) : Type 0 where
  pub ordered : IsAscendingBy name new
  pub names : (n : List Text) → Any (λ x. name x ≡ n) new
      ↔ (Any (λ x. name x ≡ n) old ⊎ (name item ≡ n))
  pub texts : (n : List Text) (t : Text) → HasUnder name has new n t
      ↔ (HasUnder name has old n t ⊎ ((name item ≡ n) × has item t))
