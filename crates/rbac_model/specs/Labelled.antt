use Rattle.std.specs.Prelude.{◌≡◌, ◌↔◌, ◌⊎◌, ℕ, ◌/◌, ◌%◌, List, [], ◌∷◌, ◌++◌, Option, Some, None}
use Rattle.std.specs.Prelude.{Any}
use Rattle.std.specs.Prelude.{slice_get}
use Rattle.std.specs.Int.{bit_at}
use Rattle.std.specs.List.Sorted.{IsSorted}
use Rattle.rbac_terms.specs.Text.{Text}
use Rattle.rbac_terms.specs.Selecting.{LabelTexts, HasLabel, HasLabelKey}
use Rattle.rbac_terms.specs.declared.granting.ClusterRole.{ClusterRole}
use Rattle.rbac_model.specs.Graphs.{HasPlace}
use Rattle.rbac_model.specs.Lists.{by_name}

-- there is a role at the place, and its labels have the property
abbrev pub IsWithAt : (LabelTexts → Type 0) → List ClusterRole → ℕ → Type 0
IsWithAt P roles k = (r : ClusterRole) × (slice_get roles k ≡ Some r) × P r.labels

-- the set of the places of all roles whose labels have the property
abbrev pub AreWith : (LabelTexts → Type 0) → List ClusterRole → List ℕ → Type 0
AreWith P roles places = (k : ℕ) → HasPlace places k ↔ IsWithAt P roles k

-- a label by its texts: its key and its value, or its key alone
abbrev pub label_texts : Text → Option Text → List Text
label_texts key None = key ∷ []
label_texts key (Some value) = key ∷ value ∷ []

-- some label has the key and the value, or, if no value is asked for, the key
abbrev pub HasSome : LabelTexts → Text → Option Text → Type 0
HasSome labels key None = HasLabelKey labels key
HasSome labels key (Some value) = HasLabel labels key value

-- a label, and which of the 64 places of one word have it: those whose bit is 1
pub record LabelEntry : Type 0 where
  pub label : List Text
  pub place : ℕ
  pub bits : ℕ

-- an entry says that the place has the label
abbrev pub Says : LabelEntry → List Text → ℕ → Type 0
Says e label k = (e.label ≡ label) × (k / 64 ≡ e.place / 64) × (bit_at e.bits (k % 64) ≡ 1)

-- the entries are in order of labels, and say of each label exactly which roles have it
pub record AreLabels (roles : List ClusterRole) (entries : List LabelEntry) : Type 0 where
  pub sorted : IsSorted (by_name (λ e. e.label)) entries
  pub exact : (key : Text) (value : Option Text) (k : ℕ)
      → Any (λ e. Says e (label_texts key value) k) entries
      ↔ IsWithAt (λ labels. HasSome labels key value) roles k

-- new says what old says, and adds the labels of the role at a place
abbrev pub Adds : List LabelEntry → List LabelEntry → LabelTexts → ℕ → Type 0
Adds old new labels place = (key : Text) (value : Option Text) (k : ℕ)
    → Any (λ e. Says e (label_texts key value) k) new
    ↔ (Any (λ e. Says e (label_texts key value) k) old ⊎ ((k ≡ place) × HasSome labels key value))

-- no entry's label is less than the one before it
abbrev pub AreInLabelOrder : List LabelEntry → Type 0
AreInLabelOrder = IsSorted (by_name (λ e. e.label))

-- ys say of each label the same as xs
abbrev pub SayTheSame : List LabelEntry → List LabelEntry → Type 0
SayTheSame xs ys = (label : List Text) (k : ℕ)
    → Any (λ e. Says e label k) ys ↔ Any (λ e. Says e label k) xs

-- new says what old and one more entry say, and is in order wherever old followed by this entry
-- would be
pub record IsWithEntry (old : List LabelEntry) (entry : LabelEntry)
    (new : List LabelEntry) : Type 0 where
  pub says : (label : List Text) (k : ℕ)
      → Any (λ e. Says e label k) new ↔ (Any (λ e. Says e label k) old ⊎ Says entry label k)
  pub in_order : (rest : List LabelEntry) → AreInLabelOrder (old ++ entry ∷ rest)
      → AreInLabelOrder (new ++ rest)
