-- How the paths from a principal and the ways to a request agree.
use Rattle.std.specs.Prelude.{◌≡◌, ◌↔◌, ◌⊎◌, ◌<◌, ℕ, List, Any, Contains}
use Rattle.rbac_terms.specs.Principals.{Who}
use Rattle.rbac_model.specs.Policies.{PolicyView}
use Rattle.rbac_paths.specs.Access.{AccessView, AllowsAccess}
use Rattle.rbac_paths.specs.Nodes.{Somebody}
use Rattle.rbac_paths.specs.Paths.{PathView}
use Rattle.rbac_paths.specs.WaysTo.{WayView}

-- the request is allowed after n steps: to the principal itself, if n is 0, or to a node that these
-- paths list with n steps
abbrev pub IsAllowedAfter : PolicyView → Who → AccessView → List PathView → ℕ → Type 0
IsAllowedAfter p who asked paths n =
    ((n ≡ 0) × AllowsAccess p asked (Somebody who))
    ⊎ Any (λ x. (x.count ≡ n) × AllowsAccess p asked x.node) paths

-- the ways list the principal exactly if the request is allowed to it, or its paths list a node
-- that allows the request; the number of steps is the least after which the request is allowed
pub record AgreeOn (p : PolicyView) (who : Who) (asked : AccessView) (paths : List PathView)
    (ways : List WayView) : Type 0 where
  pub listed : Any (λ x. x.node ≡ Somebody who) ways
      ↔ (AllowsAccess p asked (Somebody who) ⊎ Any (λ x. AllowsAccess p asked x.node) paths)
  pub count : (x : WayView) → Contains ways x → x.node ≡ Somebody who
      → IsAllowedAfter p who asked paths x.count
      × ((n : ℕ) → n < x.count → ¬ IsAllowedAfter p who asked paths n)
