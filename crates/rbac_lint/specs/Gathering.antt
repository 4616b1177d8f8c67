-- The rules that an aggregated role gathers, for finding stale aggregates.
use Rattle.std.specs.Prelude.{◌≡◌, ℕ, ◌<◌, ◌↔◌, List, Some, Contains, map, slice_get}
use Rattle.std.proofs.Common.{Bor}
use Rattle.rbac_terms.specs.declared.matching.Rule.{Rule}
use Rattle.rbac_terms.specs.declared.granting.ClusterRole.{ClusterRole}
use Rattle.rbac_model.specs.Places.{IsReachedAt}
use Rattle.rbac_model.specs.Policies.{Held, IsPlain}

-- the rules that these references point to
abbrev pub rules_at : List (Bor Rule) → List Rule
rules_at rules = map (λ x. x.now) rules

-- r gathers the rule from one of the first n cluster roles: a plain one that it reaches
abbrev pub IsGatheredBy : Held → ClusterRole → ℕ → Rule → Type 0
IsGatheredBy h r n rule = (k : ℕ) × (s : ClusterRole) × (k < n)
    × (slice_get h.cluster_roles k ≡ Some s) × IsPlain s × IsReachedAt h r k × Contains s.rules rule

-- these are the rules that the cluster role at a place gathers from the first n
abbrev pub AreGatheredBy : Held → ℕ → ℕ → List Rule → Type 0
AreGatheredBy h place n rules = (r : ClusterRole) → slice_get h.cluster_roles place ≡ Some r
    → (rule : Rule) → Contains rules rule ↔ IsGatheredBy h r n rule
