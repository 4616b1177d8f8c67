-- What is listed once.
use Rattle.std.specs.Prelude.{◌≡◌, ◌↔◌, ◌⊎◌, ◌++◌, ◌∷◌, [], ℕ, Bool, List, Any, Contains}
use Rattle.rbac_terms.specs.Text.{Text}
use Rattle.rbac_index.specs.HolderViews.{once_in}
use Rattle.rbac_model.specs.Holders.{HolderView}

-- the label of a holder: two holders are alike exactly if they have the same label
abbrev pub label_of : Bool → HolderView → ℕ × Text
label_of every x = (once_in every x.binding_place, x.key)

-- the labels of these holders
abbrev pub AreLabels : Bool → List HolderView → List (ℕ × Text) → Type 0
AreLabels every xs labels = (l : ℕ × Text) → Contains labels l ↔ Any (λ x. label_of every x ≡ l) xs

-- new has the labels of old, and this one
abbrev pub AddsLabel : List (ℕ × Text) → List (ℕ × Text) → ℕ × Text → Type 0
AddsLabel old new label = (l : ℕ × Text) → Contains new l ↔ (Contains old l ⊎ (l ≡ label))

-- new is old, with x at the end unless its label is among these
abbrev pub KeepsUntold : ℕ × Text → List (ℕ × Text) → HolderView → List HolderView
    → List HolderView → Type 0
KeepsUntold label labels x old new = (Contains labels label × (new ≡ old))
    ⊎ ((¬ Contains labels label) × (new ≡ old ++ x ∷ []))
