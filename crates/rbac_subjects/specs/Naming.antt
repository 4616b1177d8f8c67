-- The subjects of a binding under their keys.
use Rattle.std.specs.Prelude.{◌≡◌, ℕ, ◌⊎◌, ◌↔◌, List, [], Some, Contains, slice_get, slice_index_or}
use Rattle.std.specs.List.Sorted.{IsSorted}
use Rattle.rbac_terms.specs.Text.{Text}
use Rattle.rbac_terms.specs.Granting.{IsSubjectKey}
use Rattle.rbac_terms.specs.declared.granting.Binding.{Binding}
use Rattle.rbac_terms.specs.declared.granting.Subject.{Subject}
use Rattle.rbac_subjects.specs.declared.subject_keys.Keyed.{Keyed}
use Rattle.rbac_subjects.specs.Keyed.{keyed_cmp}

-- the binding's subject at that place has the key
abbrev pub IsKeyAt : Binding → ℕ → Text → Type 0
IsKeyAt b at key = (s : Subject) × (slice_get b.subjects at ≡ Some s) × IsSubjectKey s b.namespace key

-- exactly the keys of the binding's subjects, each with the subject's place, in order
pub record AreKeyedSubjects (b : Binding) (xs : List Keyed) : Type 0 where
  pub sorted : IsSorted keyed_cmp xs
  pub exact : (x : Keyed) → Contains xs x ↔ IsKeyAt b x.place x.key

-- for each binding nothing, or the keys of its subjects
abbrev pub AreOfBindings : List Binding → List (List Keyed) → Type 0
AreOfBindings bs lists = (at : ℕ) (b : Binding) → slice_get bs at ≡ Some b
    → (slice_index_or lists at [] ≡ []) ⊎ AreKeyedSubjects b (slice_index_or lists at [])
