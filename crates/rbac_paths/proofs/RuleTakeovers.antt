-- What the rules of roles take over, one rule after another.
use Rattle.std.proofs.Common.{◌≡◌, ◌∙◌, ◌<◌, ◌+◌, ◌++◌, ◌∷◌, [], ℕ, List, Option, None, Some, ap, arith, get_or, length, refl, slice_get}
use Rattle.std.specs.Prelude.{option_and_then}
use Rattle.std.specs.Option.{option_map}
use Rattle.std.proofs.lemmas.List.{length_push}
use Rattle.std.proofs.lemmas.Option.{slice_get_within}
use Rattle.rbac_terms.specs.declared.granting.Binding.{Binding}
use Rattle.rbac_terms.specs.declared.granting.ClusterRole.{ClusterRole}
use Rattle.rbac_terms.specs.declared.granting.Role.{Role}
use Rattle.rbac_terms.specs.declared.matching.Rule.{Rule}
use Rattle.rbac_model.specs.Policies.{GrantView, Held, InClusterRole, InRole, Source, SourcedRule, grant_at, rule_at, sourced_at}
use Rattle.rbac_model.specs.declared.places.GrantPlace.{GrantPlace}
use Rattle.rbac_model.specs.declared.places.RolePlace.TheVariants.{RoleAt, ClusterRoleAt}
use Rattle.rbac_paths.specs.Takeovers.{AreTakeoversOfEach, HaveTakeovers, TakeoversView}
use Rattle.rbac_steps.specs.declared.steps.Step.{Step}
use Rattle.rbac_paths.proofs.GraphOf.{pushed}

-- for each of the first `count` elements of ys, the element at its place has the property
pub record AreEach (X Y : Type 0) (P : Y → X → Type 0) (ys : List Y) (d : X) (count : ℕ) (xs : List X) : Type 0 where
  pub len : length xs ≡ count
  pub each : (k : ℕ) (y : Y) → k < count → slice_get ys k ≡ Some y → P y (get_or xs k d)

pub none_yet : (X Y : Type 0) (P : Y → X → Type 0) (ys : List Y) (d : X) (xs : List X) → xs ≡ [] → AreEach X Y P ys d 0 xs
none_yet X Y P ys d xs empty = record {
  len = ap length empty;
  each = λ k y low at. absurd (omega (arith, low));
}

pub one_more : (X Y : Type 0) (P : Y → X → Type 0) (ys : List Y) (d : X) (count : ℕ) (xs : List X) (x : X) → AreEach X Y P ys d count xs → ((y : Y) → slice_get ys count ≡ Some y → P y x) → AreEach X Y P ys d (count + 1) (xs ++ x ∷ [])
one_more X Y P ys d count xs x are last = record {
  len = length_push xs x ∙ ap (λ (n : ℕ). n + 1) are.len;
  each = pushed (λ k y v. P y v) ys d xs x count are.len are.each last;
}

pub each_of : (X Y : Type 0) (P : Y → X → Type 0) (ys : List Y) (d : X) (count : ℕ) (xs : List X) → length ys ≡ count → AreEach X Y P ys d count xs → (k : ℕ) (y : Y) → slice_get ys k ≡ Some y → P y (get_or xs k d)
each_of X Y P ys d count xs end are k y at = are.each k y (let low = slice_get_within ys k y at in omega (arith, low, end)) at

-- ---- the rule at a place

rule_there : (source : Source) (i : ℕ) (o : Option Rule) (r : SourcedRule) → option_map (λ (x : Rule). let v : SourcedRule = record { source = source; rule = x; place = i } in v) o ≡ Some r → o ≡ Some r.rule
rule_there source i None r e = cc
rule_there source i (Some x) r e = ap (option_map (λ (v : SourcedRule). v.rule)) e

in_role : (o : Option Role) (i : ℕ) (r : SourcedRule) → option_and_then (λ role. rule_at (InRole role) role.rules i) o ≡ Some r → (role : Role) × (o ≡ Some role) × (slice_get role.rules i ≡ Some r.rule)
in_role None i r e = cc
in_role (Some role) i r e = (role, refl, rule_there (InRole role) i (slice_get role.rules i) r e)

in_cluster_role : (o : Option ClusterRole) (i : ℕ) (r : SourcedRule) → option_and_then (λ role. rule_at (InClusterRole role) role.rules i) o ≡ Some r → (role : ClusterRole) × (o ≡ Some role) × (slice_get role.rules i ≡ Some r.rule)
in_cluster_role None i r e = cc
in_cluster_role (Some role) i r e = (role, refl, rule_there (InClusterRole role) i (slice_get role.rules i) r e)

-- lists for all Roles and all cluster roles are lists for all rules
pub all_have : (h : Held) (steps : List Step) (m : TakeoversView) → ((at : ℕ) (role : Role) → slice_get h.roles at ≡ Some role → AreTakeoversOfEach steps role.rules (get_or m.roles at []))
    → ((at : ℕ) (role : ClusterRole) → slice_get h.cluster_roles at ≡ Some role → AreTakeoversOfEach steps role.rules (get_or m.cluster_roles at [])) → HaveTakeovers h steps m
all_have h steps m roles cluster_roles (RoleAt at) i r here =
    let found = in_role (slice_get h.roles at) i r here in
    roles at found.0 found.1 i r.rule found.2
all_have h steps m roles cluster_roles (ClusterRoleAt at) i r here =
    let found = in_cluster_role (slice_get h.cluster_roles at) i r here in
    cluster_roles at found.0 found.1 i r.rule found.2

-- ---- the rule of a grant

rule_of_parts : (o : Option Binding) (r : Option SourcedRule) (g : GrantView) → option_and_then (λ (b : Binding). option_map (λ (rule : SourcedRule). let v : GrantView = record { binding = b; rule = rule } in v) r) o ≡ Some g → r ≡ Some g.rule
rule_of_parts None r g e = cc
rule_of_parts (Some b) None g e = cc
rule_of_parts (Some b) (Some r) g e = ap (λ (o : Option GrantView). option_map (λ (v : GrantView). v.rule) o) e

pub rule_of_grant : (h : Held) (place : GrantPlace) (g : GrantView) → grant_at h place ≡ Some g → sourced_at h place.role place.rule ≡ Some g.rule
rule_of_grant h place g here = rule_of_parts (slice_get h.bindings place.binding) (sourced_at h place.role place.rule) g here
