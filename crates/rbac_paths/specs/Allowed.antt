-- Which bindings allow a request to the principals that they name.
use Rattle.std.specs.Prelude.{◌≡◌, ◌↔◌, ℕ, Bool, IsTrue, List, Some, false, slice_get, slice_index_or}
use Rattle.rbac_model.specs.Policies.{GrantView, IsOfBinding, PolicyView}
use Rattle.rbac_paths.specs.Access.{AccessView}
use Rattle.rbac_paths.specs.Aims.{Serves, ToBeAllowed}

-- the grant with number n allows the request
abbrev pub IsAllowingAt : PolicyView → AccessView → ℕ → Type 0
IsAllowingAt p asked n = (g : GrantView) × (slice_get p.grants n ≡ Some g)
    × Serves (ToBeAllowed asked) g.binding.namespace g.rule.rule

-- exactly the bindings that have a grant which allows the request are marked
abbrev pub MarkAllowing : PolicyView → AccessView → List Bool → Type 0
MarkAllowing p asked marks = (at : ℕ) → IsTrue (slice_index_or marks at false)
    ↔ ((n : ℕ) × IsOfBinding p n at × IsAllowingAt p asked n)
