-- The lines of a universe, in order, and the requests of each.
use Rattle.std.specs.Prelude.{◌≡◌, ℕ, ◌+◌, ◌<◌, ◌⊎◌, List, [], ◌∷◌, ◌++◌, Some, map, drop}
use Rattle.std.specs.Prelude.{slice_get, length}
use Rattle.std.specs.List.{flat_map}
use Rattle.rbac_terms.specs.Text.{Text}
use Rattle.rbac_terms.specs.Principals.{Who}
use Rattle.rbac_model.specs.Universes.{UniverseView, Cell}
use Rattle.rbac_matrix.specs.declared.line.Place.{Place}
use Rattle.rbac_matrix.specs.Cells.{cell_at}

-- a line of the matrix (own): a principal, a namespace and a verb
pub record LineView : Type 0 where
  pub who : Who
  pub namespace : Text
  pub verb : Text

abbrev pub line : Who → Text → Text → LineView
line who namespace verb = record { who = who; namespace = namespace; verb = verb }

-- the list that `first` makes of the first element, then the lists that `whole` makes of the others
abbrev pub onward : {A B : Type 0} → (A → List B) → (A → List B) → List A → List B
onward first whole [] = []
onward first whole (x ∷ xs) = first x ++ flat_map whole xs

-- the lines of a principal in a namespace, from a verb on; the lines of a principal, from a
-- namespace and a verb on; and all lines, from a place on
abbrev pub verb_lines : UniverseView → Who → ℕ → Text → List LineView
verb_lines u who v namespace = map (line who namespace) (drop v u.verbs)

abbrev pub namespace_lines : UniverseView → ℕ → ℕ → Who → List LineView
namespace_lines u n v who = onward (verb_lines u who v) (verb_lines u who 0) (drop n u.namespaces)

unfoldable pub lines_from : UniverseView → Place → List LineView
lines_from u at =
    onward (namespace_lines u at.namespace at.verb) (namespace_lines u 0 0)
    (drop at.principal u.principals)

-- the place of a principal, a namespace and a verb; and the place after that of a line
abbrev pub place : ℕ → ℕ → ℕ → Place
place p n v = record { principal = p; namespace = n; verb = v }

abbrev pub next_verb : Place → Place
next_verb at = place at.principal at.namespace (at.verb + 1)

-- `to` is the place itself, or the first place of a principal, or, if `at` isn't the first place of
-- a namespace, the first place of a namespace of the same principal
abbrev pub IsMoved : Place → Place → Type 0
IsMoved at to =
    (to ≡ at)
    ⊎ ((to.verb ≡ 0) × ((to.namespace ≡ 0) ⊎ ((to.principal ≡ at.principal) × (0 < at.verb))))

-- the line is at the place
pub record IsLineAt (u : UniverseView) (at : Place) (l : LineView) : Type 0 where
  pub principal : slice_get u.principals at.principal ≡ Some l.who
  pub namespace : slice_get u.namespaces at.namespace ≡ Some l.namespace
  pub verb : slice_get u.verbs at.verb ≡ Some l.verb

-- a line is at the place, or the place is past all lines
abbrev pub IsSettled : UniverseView → Place → Type 0
IsSettled u at =
    ((at.principal < length u.principals) × (at.namespace < length u.namespaces)
    × (at.verb < length u.verbs))
    ⊎ (lines_from u at ≡ [])

-- the requests of a line from a target's place on
unfoldable pub line_cells_from : UniverseView → ℕ → LineView → List Cell
line_cells_from u from l = map (cell_at l.who l.namespace l.verb) (drop from u.targets)

-- the requests of these lines, on the first line only those from a target's place on
abbrev pub cells_of_lines : UniverseView → ℕ → List LineView → List Cell
cells_of_lines u from ls = onward (line_cells_from u from) (line_cells_from u 0) ls
