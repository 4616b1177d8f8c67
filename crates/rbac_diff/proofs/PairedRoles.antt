-- roles that cover each other, and the rules of their grants
use Rattle.std.proofs.Common.{◌≡◌, ◌<◌, ◌+◌, ◌⊎◌, inl, inr, ℕ, List, [], ◌∷◌, ◌++◌, length, get_or, arith, sym, ◌∙◌, subst, ap, refl, slice_get}
use Rattle.std.specs.Prelude.{Option, Some, None, IfSome, option_and_then}
use Rattle.std.specs.Option.{option_map}
use Rattle.std.proofs.lemmas.Bool.{cases_lt}
use Rattle.std.proofs.lemmas.List.{length-append}
use Rattle.std.proofs.lemmas.Option.{same_Some, slice_get_within, slice_get-get_or}
use Rattle.rbac_terms.specs.declared.granting.Binding.{Binding}
use Rattle.rbac_terms.specs.declared.matching.Rule.{Rule}
use Rattle.rbac_terms.proofs.Reading.{read_left, read_right}
use Rattle.rbac_model.specs.Policies.{GrantView, Held, InClusterRole, InRole, Source, SourcedRule, grant_at, rule_at, sourced_at}
use Rattle.rbac_model.specs.declared.places.GrantPlace.{GrantPlace}
use Rattle.rbac_model.specs.declared.places.RolePlace.{RolePlace}
use Rattle.rbac_model.specs.declared.places.RolePlace.TheVariants.{ClusterRoleAt, RoleAt}
use Rattle.rbac_covering.specs.Covering.{CoversAll}
use Rattle.rbac_diff.specs.CoveredRoles.{AreCoveredAt, AreCoveredRoles, HasPair, IsCoveredAt}
use Rattle.rbac_diff.specs.declared.covered_roles.CoveredRoles.{CoveredRoles}

-- a grant's rule stands in the role at its place
rule_of_parts : (o : Option Binding) (r : Option SourcedRule) (g : GrantView) → option_and_then (λ (b : Binding). option_map (λ (rule : SourcedRule). let v : GrantView = record { binding = b; rule = rule } in v) r) o ≡ Some g → r ≡ Some g.rule
rule_of_parts None r g e = absurd (cc e)
rule_of_parts (Some b) None g e = absurd (cc e)
rule_of_parts (Some b) (Some rule) g e =
    let made : GrantView = record { binding = b; rule = rule } in
    let same : made ≡ g = same_Some made g e in
    ap (λ (v : GrantView). Some v.rule) same

rule_there : (source : Source) (i : ℕ) (s : SourcedRule) (o : Option Rule) → option_map (λ (r : Rule). let t : SourcedRule = record { source = source; rule = r; place = i } in t) o ≡ Some s → o ≡ Some s.rule
rule_there source i s None e = absurd (cc e)
rule_there source i s (Some r) e =
    let made : SourcedRule = record { source = source; rule = r; place = i } in
    let same : made ≡ s = same_Some made s e in
    ap (λ (t : SourcedRule). Some t.rule) same

module _ {T : Type 0} (rules : T → List Rule) (source : T → Source) where
  role_there : (roles : List T) (at i : ℕ) (s : SourcedRule) (o : Option T) → slice_get roles at ≡ o → option_and_then (λ (r : T). rule_at (source r) (rules r) i) o ≡ Some s → (r : T) × (slice_get roles at ≡ Some r) × (slice_get (rules r) i ≡ Some s.rule)
  role_there roles at i s None e f = absurd (cc f)
  role_there roles at i s (Some r) e f = (r, e, rule_there (source r) i s (slice_get (rules r) i) f)

  pair_at : (mine theirs : List T) (places : List (Option ℕ)) → AreCoveredAt rules mine places theirs → (at to i : ℕ) (s t : SourcedRule) → slice_get places at ≡ Some (Some to)
      → option_and_then (λ (r : T). rule_at (source r) (rules r) i) (slice_get mine at) ≡ Some s → option_and_then (λ (r : T). rule_at (source r) (rules r) i) (slice_get theirs to) ≡ Some t → CoversAll t.rule s.rule
  pair_at mine theirs places are at to i s t pair e f =
      let m = role_there mine at i s (slice_get mine at) refl e in
      let n = role_there theirs to i t (slice_get theirs to) refl f in
      (are at to m.0 pair m.1 n.0 n.1).each i t.rule s.rule n.2 m.2

module _ (own other : Held) (covered : CoveredRoles) (are : AreCoveredRoles own covered other) where
  by_roles : (x y : RolePlace) (i : ℕ) (s t : SourcedRule) → HasPair covered x y → sourced_at own x i ≡ Some s → sourced_at other y i ≡ Some t → CoversAll t.rule s.rule
  by_roles (RoleAt at) (RoleAt to) i s t pair e f = pair_at (λ r. r.rules) (λ r. InRole r) own.roles other.roles covered.roles.items are.roles at to i s t pair e f
  by_roles (ClusterRoleAt at) (ClusterRoleAt to) i s t pair e f = pair_at (λ r. r.rules) (λ r. InClusterRole r) own.cluster_roles other.cluster_roles covered.cluster_roles.items are.cluster_roles at to i s t pair e f
  by_roles (RoleAt at) (ClusterRoleAt to) i s t pair e f = absurd pair
  by_roles (ClusterRoleAt at) (RoleAt to) i s t pair e f = absurd pair

  -- so the rules of their grants cover each other
  pub pair_covers : (a b : GrantPlace) (g h : GrantView) → a.rule ≡ b.rule → HasPair covered a.role b.role → grant_at own a ≡ Some g → grant_at other b ≡ Some h → CoversAll h.rule.rule g.rule.rule
  pair_covers a b g h same pair e f =
      let mine = rule_of_parts (slice_get own.bindings a.binding) (sourced_at own a.role a.rule) g e in
      let theirs : sourced_at other b.role a.rule ≡ Some h.rule = rw same (rule_of_parts (slice_get other.bindings b.binding) (sourced_at other b.role b.rule) h f) in
      by_roles a.role b.role a.rule g.rule h.rule pair mine theirs

-- the place of one more role, if another one's rules cover its own
pub places_more : {T : Type 0} (rules : T → List Rule) (roles others : List T) (places : List (Option ℕ)) (place : Option ℕ) (i : ℕ) (role : T) → i < length roles → role ≡ get_or roles i role → (length places ≡ i) × AreCoveredAt rules roles places others → IfSome place (IsCoveredAt rules role others)
    → (length (places ++ place ∷ []) ≡ i + 1) × AreCoveredAt rules roles (places ++ place ∷ []) others
places_more {T} rules roles others places place i role lt is before last = (
  omega (arith, length-append places (place ∷ [])),
  λ k at r e f. elim (cases_lt k (length places)) [
    | inl less ↦ before.1 k at r (sym (read_left places (place ∷ []) k less) ∙ e) f
    | inr le ↦
        let within : k < length (places ++ place ∷ []) = slice_get_within (places ++ place ∷ []) k (Some at) e in
        let here : k ≡ length places = omega (arith, length-append places (place ∷ [])) in
        let there : place ≡ Some at = same_Some place (Some at) (sym (read_right places (place ∷ []) k 0 (omega arith)) ∙ e) in
        let read : slice_get roles k ≡ Some role = rw (here, before.0) (slice_get-get_or roles i role lt ∙ ap (λ (x : T). Some x) (sym is)) in
        let same : role ≡ r = same_Some role r (sym read ∙ f) in
        subst (λ (x : T). IsCoveredAt rules x others at) same (subst (λ (o : Option ℕ). IfSome o (IsCoveredAt rules role others)) there last)
  ],
)
