-- Lines of namespaces where no RoleBinding names the principal.
use Rattle.std.specs.Prelude.{◌≡◌, ◌<◌, ◌≤◌, ◌⊎◌, ◌++◌, ℕ, List, Contains, Some, length, slice_get}
use Rattle.std.specs.declared.cmp.Ordering.TheVariants.{Less}
use Rattle.rbac_terms.specs.Text.{Text, text_cmp}
use Rattle.rbac_terms.specs.Principals.{Who}
use Rattle.rbac_model.specs.Policies.{PolicyView}
use Rattle.rbac_model.specs.Universes.{UniverseView}
use Rattle.rbac_subjects.specs.Bound.{IsNamedIn}
use Rattle.rbac_matrix.specs.Lines.{LineView, lines_from}
use Rattle.rbac_matrix.specs.declared.line.Place.{Place}

-- the namespace x is `from`, or comes after it
abbrev pub IsFrom : Text → Text → Type 0
IsFrom from x = (x ≡ from) ⊎ (text_cmp from x ≡ Less)

-- the place is one of this principal's, and neither its namespace nor a later one comes before
-- `from`
pub record BeginsFrom (u : UniverseView) (at : Place) (asking : Who) (from : Text) : Type 0 where
  pub principal : slice_get u.principals at.principal ≡ Some asking
  pub verb : at.verb < length u.verbs
  pub later : (j : ℕ) (x : Text) → at.namespace ≤ j → slice_get u.namespaces j ≡ Some x
      → IsFrom from x

-- a line of this principal, in a namespace that doesn't come before `from`, where no RoleBinding
-- names the principal
pub record IsUnnamed (p : PolicyView) (asking : Who) (from : Text) (l : LineView) : Type 0 where
  pub who : l.who ≡ asking
  pub later : IsFrom from l.namespace
  pub unnamed : ¬ IsNamedIn p asking l.namespace

-- each line from `at` up to `to` is such a line
pub record PassesUnnamed (p : PolicyView) (u : UniverseView) (asking : Who) (from : Text)
    (at to : Place) : Type 0 where
  pub between : List LineView
  pub whole : lines_from u at ≡ between ++ lines_from u to
  pub unnamed : (l : LineView) → Contains between l → IsUnnamed p asking from l
