-- Repeats: rows of a namespace by a ClusterRoleBinding, which allows the same in the whole cluster.
use Rattle.std.specs.Prelude.{◌≡◌, ◌↔◌, Bool, true, false, not, Option, None, List, [], ◌∷◌, ◌++◌}
use Rattle.std.specs.Prelude.{All, Contains, filter}
use Rattle.rbac_terms.specs.Text.{Text}
use Rattle.rbac_model.specs.Universes.{UniverseView, RowView, cell_key}

-- the namespace of a request isn't empty, and the binding is a ClusterRoleBinding, which has none
abbrev pub repeats_at : Text → Option Text → Bool
repeats_at (c ∷ namespace) None = true
repeats_at _ _ = false

-- a row is a repeat: it has a namespace, and its binding is a ClusterRoleBinding. So its principal
-- may do the same in the whole cluster (own)
abbrev pub is_repeat : RowView → Bool
is_repeat row = repeats_at (cell_key row.cell).namespace row.binding.namespace

-- the rows that aren't repeats
abbrev pub without_repeats : List RowView → List RowView
without_repeats rows = filter (λ row. not (is_repeat row)) rows

-- the row of the same request in the whole cluster, with the same binding
abbrev pub everywhere : RowView → RowView
everywhere row = record row { cell = record row.cell { namespace = [] } }

-- if the universe has the empty namespace, each row that is left out as a repeat is among the other
-- rows with that namespace (own)
abbrev pub RepeatsStandElsewhere : UniverseView → List RowView → Type 0
RepeatsStandElsewhere u rows = Contains u.namespaces [] → (row : RowView) → Contains rows row
    → is_repeat row ≡ true → Contains (without_repeats rows) (everywhere row)

-- the rows left before are some repeats, and then the rows left after
pub record PassesSome (before after : List RowView → Type 0) : Type 0 where
  pub passed : List RowView
  pub repeats : All (λ row. is_repeat row ≡ true) passed
  pub left : (all : List RowView) → before all
      ↔ ((others : List RowView) × (all ≡ passed ++ others) × after others)

-- the first row that is left, if there is one, isn't a repeat
abbrev pub StaysFirst : (List RowView → Type 0) → Type 0
StaysFirst left = (row : RowView) (others : List RowView) → left (row ∷ others)
    → is_repeat row ≡ false

-- the rows before the first row that isn't a repeat were passed, or all rows if each is a repeat;
-- so the rows left before and after are the same without repeats
pub record PassesRepeats (before after : List RowView → Type 0) : Type 0 where
  pub some : PassesSome before after
  pub first : StaysFirst after
  pub once : (all : List RowView) → before all
      → (others : List RowView) × after others × (without_repeats all ≡ without_repeats others)
