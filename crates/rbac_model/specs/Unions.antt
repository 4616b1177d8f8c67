use Rattle.std.specs.Prelude.{◌≡◌, ◌↔◌, List, [], ◌∷◌, Contains, Any}
use Rattle.rbac_terms.specs.Text.{Text}
use Rattle.rbac_model.specs.Lists.{IsAscendingBy}
use Rattle.rbac_terms.specs.Principals.{Who, who_key, given_of}

-- a principal's key alone, as a list of one text
abbrev pub who_texts : Who → List Text
who_texts who = who_key who ∷ []

-- some principal of that key is given that group
abbrev pub IsGiven : List Who → Text → Text → Type 0
IsGiven ps key g = Any (λ p. (who_key p ≡ key) × Contains (given_of p) g) ps

-- one principal for each key of the list, in order of keys, with all groups that are given under
-- its key
pub record AreUnited (listed ps : List Who) : Type 0 where
  pub ordered : IsAscendingBy who_texts ps
  pub keys : (key : Text) → Any (λ p. who_key p ≡ key) ps ↔ Any (λ p. who_key p ≡ key) listed
  pub given : (key g : Text) → IsGiven ps key g ↔ IsGiven listed key g
