-- each binding brings some rules, so bindings have grants
use Rattle.std.proofs.Common.{◌≡◌, ℕ, ◌<◌, List, [], ◌∷◌, ◌++◌, length, get_or, Any, ◌⊎◌, inl, inr, refl, ap, ◌∙◌, arith, suc, zero}
use Rattle.std.specs.Prelude.{Option, Some, None}
use Rattle.rbac_terms.specs.Text.{Text}
use Rattle.rbac_terms.specs.declared.granting.Binding.{Binding}
use Rattle.rbac_terms.specs.declared.granting.Role.{Role}
use Rattle.rbac_terms.specs.declared.granting.ClusterRole.{ClusterRole}
use Rattle.rbac_terms.specs.declared.granting.RoleRef.{RoleRef}
use Rattle.rbac_terms.specs.declared.granting.RoleRef.TheVariants.{Role as ToRole, ClusterRole as ToClusterRole}
use Rattle.rbac_terms.proofs.Cases.{by_ordering}
use Rattle.rbac_model.specs.Lists.{by_name}
use Rattle.rbac_model.specs.Policies.{Held, InRole, SourcedRule, GrantView, AreRulesFor, AreGrantsOf, written_from, role_name, cluster_role_name}
use Rattle.rbac_model.specs.Places.{AreSourcesAt, IsRefAt, granted_by, roles_at}
use Rattle.rbac_model.specs.declared.places.RolePlace.TheVariants.{RoleAt, ClusterRoleAt}
use Rattle.rbac_model.proofs.Listed.{rules_in}
use Rattle.rbac_model.proofs.Brought.{role_rules, source_rules}
use Rattle.rbac_model.proofs.Lookups.{role_named, cluster_role_named, same_role, same_cluster_role, role_ref, cluster_role_ref, no_role_ref, no_cluster_role_ref}
use Rattle.rbac_model.proofs.NamePlaces.{same_name, equal_from_name}

role_same : (r : Role) (namespace name : Text) → r.namespace ≡ namespace → r.name ≡ name → role_name r ≡ role_name (role_named namespace name)
role_same r namespace name e f = cc

cluster_role_same : (r : ClusterRole) (name : Text) → r.name ≡ name → cluster_role_name r ≡ cluster_role_name (cluster_role_named name)
cluster_role_same r name e = cc

same_or_not : {X : Type 0} (name : X → List Text) (y x : X) → (name y ≡ name x) ⊎ (name y ≡ name x → ⊥)
same_or_not name y x =
    by_ordering (by_name name y x)
    (λ l. inr (λ e. let f = equal_from_name name y x e in cc))
    (λ e. inl (same_name name y x e))
    (λ g. inr (λ e. let f = equal_from_name name y x e in cc))

in_neither : {X : Type 0} (name : X → List Text) (ys : List X) (y x : X) → (name y ≡ name x → ⊥) → (Any (λ z. name z ≡ name x) ys → ⊥) → (k : ℕ) (z : X) → k < length (y ∷ ys) → get_or (y ∷ ys) k z ≡ z → name z ≡ name x → ⊥
in_neither name ys y x ne none zero z l e f = ne (ap name e ∙ f)
in_neither name ys y x ne none (suc k) z l e f = none (k, z, omega (arith, l), e, f)

-- a name is at some place, or nowhere
named_or_not : {X : Type 0} (name : X → List Text) (xs : List X) (x : X) → ((at : ℕ) × (at < length xs) × ((d : X) → name (get_or xs at d) ≡ name x)) ⊎ (Any (λ y. name y ≡ name x) xs → ⊥)
named_or_not name [] x = inr (λ w. absurd (omega (arith, w.2)))
named_or_not name (y ∷ ys) x = elim (same_or_not name y x) [
  | inl e ↦ inl (0, omega arith, λ d. e)
  | inr ne ↦ elim (named_or_not name ys x) [
    | inl w ↦ inl (suc w.0, omega (arith, w.1), w.2)
    | inr none ↦ inr (λ w. in_neither name ys y x ne none w.0 w.1 w.2 w.3 w.4)
  ]
]

module _ (h : Held) (sources : (k : ℕ) → (ps : List ℕ) × AreSourcesAt h k ps) where
  by_role : (b : Binding) (namespace name : Text) → b.namespace ≡ Some namespace → b.role ≡ ToRole name → (rules : List SourcedRule) × AreRulesFor h b rules
  by_role b namespace name e f = elim (named_or_not role_name h.roles (role_named namespace name)) [
    | inl w ↦
        let ref : IsRefAt h (Some namespace) (ToRole name) (RoleAt w.0) = role_ref h namespace name w.0 (w.1, λ d. same_role (get_or h.roles w.0 d) (role_named namespace name) (w.2 d)) in
        let brings = role_rules h b w.0 (rw (e, f) ref) in
        (written_from (InRole brings.0) 0 brings.0.rules, brings.2)
    | inr none ↦ ([], inr (rw (e, f) (no_role_ref h namespace name (λ w. none (w.0, w.1, w.2, w.3, role_same w.1 namespace name w.4.0 w.4.1))), refl))
  ]

  by_cluster_role : (b : Binding) (name : Text) → b.role ≡ ToClusterRole name → (rules : List SourcedRule) × AreRulesFor h b rules
  by_cluster_role b name f = elim (named_or_not cluster_role_name h.cluster_roles (cluster_role_named name)) [
    | inl w ↦
        let found : IsRefAt h b.namespace (ToClusterRole name) (ClusterRoleAt w.0) = cluster_role_ref h b.namespace name w.0 (w.1, λ d. same_cluster_role (get_or h.cluster_roles w.0 d) (cluster_role_named name) (w.2 d)) in
        let ref : IsRefAt h b.namespace b.role (ClusterRoleAt w.0) = rw f found in
        let of = sources w.0 in
        (rules_in (roles_at h of.0), (source_rules h b w.0 of.0 of.1 ref).0)
    | inr none ↦ ([], inr (rw f (no_cluster_role_ref h b.namespace name (λ w. none (w.0, w.1, w.2, w.3, cluster_role_same w.1 name w.4))), refl))
  ]

  brought : (b : Binding) (namespace : Option Text) (role : RoleRef) → b.namespace ≡ namespace → b.role ≡ role → (rules : List SourcedRule) × AreRulesFor h b rules
  brought b (Some namespace) (ToRole name) e f = by_role b namespace name e f
  brought b None (ToRole name) e f = ([], inr (rw (e, f) (λ source ref. ref), refl))
  brought b namespace (ToClusterRole name) e f = by_cluster_role b name f

  pub all_granted : (bs : List Binding) → (gs : List GrantView) × AreGrantsOf h bs gs
  all_granted [] = ([], refl)
  all_granted (b ∷ bs) =
      let first = brought b b.namespace b.role refl refl in
      let rest = all_granted bs in
      (granted_by b first.0 ++ rest.0, (first.0, rest.0, first.1, rest.1, refl))
