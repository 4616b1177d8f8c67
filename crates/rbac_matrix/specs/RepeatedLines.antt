-- Lines on which each row, of any granting binding, is a repeat.
use Rattle.std.specs.Prelude.{◌≡◌, ◌≢◌, ℕ, ◌<◌, ◌≤◌, List, [], ◌∷◌, ◌++◌, Some, None, Contains}
use Rattle.std.specs.Prelude.{length, slice_get, true}
use Rattle.rbac_terms.specs.declared.granting.Binding.{Binding}
use Rattle.rbac_model.specs.Policies.{PolicyView, GrantView}
use Rattle.rbac_model.specs.Universes.{UniverseView, Listed}
use Rattle.rbac_matrix.specs.Cursors.{IsCursorAt}
use Rattle.rbac_matrix.specs.Lines.{LineView, lines_from}
use Rattle.rbac_matrix.specs.Once.{is_repeat}
use Rattle.rbac_matrix.specs.Pairs.{IsGranted, pair_of}
use Rattle.rbac_matrix.specs.Passing.{cell_of}
use Rattle.rbac_matrix.specs.declared.line.Place.{Place}

-- the line has a namespace, and no RoleBinding has a cursor on it; so each of its rows is a repeat
pub record IsRepeated (p : PolicyView) (l : LineView) : Type 0 where
  pub some : l.namespace ≢ []
  pub cursors : (k : ℕ) (c : IsCursorAt p l k) → c.grant.binding.namespace ≡ None

-- each line from `at` up to `to` has only repeats, as `IsRepeated` states
pub record PassesRepeated (p : PolicyView) (u : UniverseView) (at to : Place) : Type 0 where
  pub between : List LineView
  pub whole : lines_from u at ≡ between ++ lines_from u to
  pub repeated : (l : LineView) → Contains between l → IsRepeated p l

-- if a binding grants the line's request for the target at that place, and the request fits, their
-- pair is a repeat
abbrev pub HasRepeatsAt : PolicyView → UniverseView → LineView → ℕ → Type 0
HasRepeatsAt p u l place = (at : ℕ) (t : Listed) (b : Binding) → slice_get u.targets place ≡ Some t
    → slice_get p.held.bindings at ≡ Some b → IsGranted p.held (pair_of (cell_of l t) b)
    → is_repeat (pair_of (cell_of l t) b) ≡ true

-- this holds for each target; and for the targets from one place up to another
abbrev pub HasRepeats : PolicyView → UniverseView → LineView → Type 0
HasRepeats p u l = (place : ℕ) → HasRepeatsAt p u l place

abbrev pub HasRepeatsFrom : PolicyView → UniverseView → LineView → ℕ → ℕ → Type 0
HasRepeatsFrom p u l from to = (place : ℕ) → from ≤ place → place < to → HasRepeatsAt p u l place

-- the grants below that number belong to ClusterRoleBindings
abbrev pub AreClusterWide : PolicyView → ℕ → Type 0
AreClusterWide p count = (k : ℕ) (g : GrantView) → slice_get p.grants k ≡ Some g → k < count
    → g.binding.namespace ≡ None

-- this holds for the targets from that place on: only repeats are left of the line
abbrev pub HasRepeatsLeft : PolicyView → UniverseView → LineView → ℕ → Type 0
HasRepeatsLeft p u l from = HasRepeatsFrom p u l from (length u.targets)

-- only repeats are between a target's place on the line at `at` and the place `to`: on that line
-- from the target on, and on the lines after it
pub record PassesLines (p : PolicyView) (u : UniverseView) (at : Place) (from : ℕ)
    (to : Place) : Type 0 where
  pub line : LineView
  pub more : List LineView
  pub whole : lines_from u at ≡ line ∷ more ++ lines_from u to
  pub rest : HasRepeatsLeft p u line from
  pub repeats : (l : LineView) → Contains more l → HasRepeats p u l
