-- Sets of places of verbs, as words of 64 bits.
use Rattle.std.specs.Prelude.{◌≡◌, ℕ, ◌*◌, ◌<◌, ◌≤◌, List, Some, length, slice_get}
use Rattle.rbac_terms.specs.Text.{Text}
use Rattle.rbac_terms.specs.Matching.{VerbOk}
use Rattle.rbac_terms.specs.declared.matching.Rule.{Rule}
use Rattle.rbac_model.specs.Graphs.{HasPlace}

-- the set has room for the place
abbrev pub IsRoom : List ℕ → ℕ → Type 0
IsRoom words place = place < 64 * length words

-- the set has room for the place, but doesn't have it
abbrev pub LacksPlace : List ℕ → ℕ → Type 0
LacksPlace words place = IsRoom words place × (¬ HasPlace words place)

-- as far as the new set has room, it has the places of the old set and of the rule's verbs
pub record AddsVerbs (r : Rule) (verbs : List Text) (old new : List ℕ) : Type 0 where
  pub room : length new ≤ length old
  pub kept : (place : ℕ) → IsRoom new place → HasPlace old place → HasPlace new place
  pub more : (place : ℕ) (verb : Text) → IsRoom new place → slice_get verbs place ≡ Some verb
      → VerbOk r verb → HasPlace new place
