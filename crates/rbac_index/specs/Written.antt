use Rattle.std.specs.Prelude.{◌≡◌, ℕ, ◌+◌, ◌↔◌, List, ◌++◌, map, Any, Some, slice_get}
use Rattle.rbac_terms.specs.declared.matching.Rule.{Rule}
use Rattle.rbac_model.specs.Policies.{Held}
use Rattle.rbac_model.specs.declared.places.RolePlace.{RolePlace}
use Rattle.rbac_model.specs.declared.places.RolePlace.TheVariants.{RoleAt, ClusterRoleAt}
use Rattle.rbac_index.specs.declared.rule_rows.Written.{Written}

-- the rules of each role, then of each cluster role
abbrev pub written_rules : Held → List (List Rule)
written_rules h = map (λ r. r.rules) h.roles ++ map (λ r. r.rules) h.cluster_roles

-- the row of a role's rules, given how many roles there are
abbrev pub row_of : ℕ → RolePlace → ℕ
row_of roles (RoleAt at) = at
row_of roles (ClusterRoleAt at) = roles + at

-- the rule is at that place in that row
abbrev pub IsRuleAt : List (List Rule) → ℕ → ℕ → Rule → Type 0
IsRuleAt rows row place r = (rs : List Rule) × (slice_get rows row ≡ Some rs)
    × (slice_get rs place ≡ Some r)

-- the rule is listed with that row and that place
abbrev pub HasWritten : List Written → ℕ → ℕ → Rule → Type 0
HasWritten ws row place r = Any (λ w. (w.row ≡ row) × (w.place ≡ place) × (w.rule.now ≡ r)) ws

-- exactly the rules of these rows, each with its row and its place there
abbrev pub AreWritten : List (List Rule) → List Written → Type 0
AreWritten rows ws = (row place : ℕ) (r : Rule) → HasWritten ws row place r
    ↔ IsRuleAt rows row place r

-- the rules, without their rows and places
abbrev pub bare_rules : List Written → List Rule
bare_rules ws = map (λ w. w.rule.now) ws
