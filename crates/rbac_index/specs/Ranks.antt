-- The ranks of labels.
use Rattle.std.specs.Prelude.{◌≡◌, ◌≢◌, ℕ, ◌+◌, ◌<◌, ◌⊎◌, ◌∷◌, List, All, Any, Some}
use Rattle.std.specs.Prelude.{length, slice_get, slice_index}
use Rattle.std.specs.declared.cmp.Ordering.{Ordering}
use Rattle.rbac_terms.specs.Text.{Text, text_cmp}
use Rattle.rbac_model.specs.Lists.{IsOnceEach}
use Rattle.rbac_index.specs.declared.ranks.Placed.{Placed}

-- the rank of each label: its place in the ascending list that has each label once
pub record AreRanks (labels : List Text) (ranks : List ℕ) : Type 0 where
  pub once : List Text
  pub each : IsOnceEach text_cmp labels once
  pub as_many : length ranks ≡ length labels
  pub places : (i : ℕ) (label : Text) → slice_get labels i ≡ Some label
      → slice_get once (slice_index ranks i) ≡ Some label

-- the label: the key after its number
abbrev pub placed_label : Placed → Text
placed_label p = p.once_in ∷ p.key.now

-- `next` is the rank of a label that is the last one, or comes right after it
abbrev pub IsRankAfter : ℕ → Text → Text → ℕ → Type 0
IsRankAfter rank last label next = ((last ≡ label) × (next ≡ rank))
    ⊎ ((last ≢ label) × (next ≡ rank + 1))

-- the order of labels
abbrev pub placed_cmp : Placed → Placed → Ordering
placed_cmp a b = text_cmp (placed_label a) (placed_label b)

-- all labels, with their places
pub record ArePlaced (labels : List Text) (placed : List Placed) : Type 0 where
  pub each : All (λ p. slice_get labels p.place ≡ Some (placed_label p)) placed
  pub all : (i : ℕ) → i < length labels → Any (λ p. p.place ≡ i) placed
