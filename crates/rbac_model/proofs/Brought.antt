-- the rules that a binding brings, by the place of its role
use Rattle.std.proofs.Common.{◌≡◌, ℕ, ◌<◌, List, [], ◌∷◌, ◌++◌, length, All, inl, inr, sym, ap, ◌∙◌, refl, arith, subst, option_map, Result, Ok, Err, IfErr, append-nil, ◌+◌, ◌⊎◌}
use Rattle.std.specs.Prelude.{Option, Some, None, slice_get, IsSome}
use Rattle.std.proofs.lemmas.Option.{same_Some, slice_get_within}
use Rattle.rbac_model.specs.Policies.{Held, Source, InRole, InClusterRole, SourcedRule, IsRefTo, IsPlain, AreRulesOf, AreRulesFor, AreGathered, written_from, grant_at}
use Rattle.rbac_model.specs.Places.{IsRefAt, AreSourcesAt, IsAdded, roles_at, role_places, places_in}
use Rattle.rbac_terms.specs.declared.granting.Binding.{Binding}
use Rattle.rbac_terms.specs.declared.granting.Role.{Role}
use Rattle.rbac_terms.specs.declared.granting.ClusterRole.{ClusterRole}
use Rattle.rbac_model.specs.declared.places.GrantPlace.{GrantPlace}
use Rattle.rbac_model.specs.declared.places.RolePlace.TheVariants.{RoleAt, ClusterRoleAt}
use Rattle.rbac_model.proofs.Listed.{rules_in, added, role_placed, sources_placed, placed_len}

pub if_err : {T E : Type 0} (P Q : E → Type 0) (o : Result T E) → ((e : E) → P e → Q e) → IfErr o P → IfErr o Q
if_err P Q (Ok x) f p = tt
if_err P Q (Err e) f p = f e p

role_there : (h : Held) (k : ℕ) (o : Option Role) → slice_get h.roles k ≡ o → (source : Source) → option_map (λ r. InRole r) o ≡ Some source → (r : Role) × (slice_get h.roles k ≡ Some r) × (InRole r ≡ source)
role_there h k None e source f = cc
role_there h k (Some r) e source f = (r, e, same_Some (InRole r) source f)

cluster_role_there : (h : Held) (k : ℕ) (o : Option ClusterRole) → slice_get h.cluster_roles k ≡ o → (source : Source) → option_map (λ r. InClusterRole r) o ≡ Some source → (r : ClusterRole) × (slice_get h.cluster_roles k ≡ Some r) × (InClusterRole r ≡ source)
cluster_role_there h k None e source f = cc
cluster_role_there h k (Some r) e source f = (r, e, same_Some (InClusterRole r) source f)

module _ (h : Held) (b : Binding) (k : ℕ) where
  pub role_rules : IsRefAt h b.namespace b.role (RoleAt k) → (r : Role) × (slice_get h.roles k ≡ Some r) × AreRulesFor h b (written_from (InRole r) 0 r.rules)
  role_rules ref =
      let there = role_there h k (slice_get h.roles k) refl ref.0 ref.1 in
      let P : Source → Type 0 = λ s. IsRefTo h b.namespace b.role s in
      (there.0, there.1, inl (InRole there.0, subst P (sym there.2) ref.2, refl))

  own_or_gathered : (r : ClusterRole) (ss : List ClusterRole) → (IsPlain r × (ss ≡ r ∷ [])) ⊎ ((IsPlain r → ⊥) × AreGathered h r ss) → AreRulesOf h (InClusterRole r) (rules_in ss)
  own_or_gathered r ss w = elim w [
    | inl u ↦ inl (u.0, ap rules_in u.1 ∙ append-nil (written_from (InClusterRole r) 0 r.rules))
    | inr u ↦ inr (u.0, (ss, u.1, refl))
  ]

  pub source_rules : (ps : List ℕ) → AreSourcesAt h k ps → IsRefAt h b.namespace b.role (ClusterRoleAt k) → AreRulesFor h b (rules_in (roles_at h ps)) × All (λ p. p < length h.cluster_roles) ps
  source_rules ps of ref =
      let there = cluster_role_there h k (slice_get h.cluster_roles k) refl ref.0 ref.1 in
      let P : Source → Type 0 = λ s. IsRefTo h b.namespace b.role s in
      let from = of there.0 there.1 in
      (inl (InClusterRole there.0, subst P (sym there.2) ref.2, own_or_gathered there.0 (roles_at h ps) from.1), from.0)

  pub source_within : IsRefAt h b.namespace b.role (ClusterRoleAt k) → k < length h.cluster_roles
  source_within ref =
      let there = cluster_role_there h k (slice_get h.cluster_roles k) refl ref.0 ref.1 in
      slice_get_within h.cluster_roles k there.0 there.1

  module _ (at : ℕ) (here : slice_get h.bindings at ≡ Some b) where
    pub role_added : (old new : List GrantPlace) → IsRefAt h b.namespace b.role (RoleAt k) → All (λ g. IsSome (grant_at h g)) old → new ≡ old ++ role_places h at k → (rules : List SourcedRule) × AreRulesFor h b rules × IsAdded h b old new rules
    role_added old new ref held e =
        let r = role_rules ref in
        (written_from (InRole r.0) 0 r.0.rules, r.2, added h b at here old new (role_places h at k) (written_from (InRole r.0) 0 r.0.rules) e held (role_placed h b at here k r.0 r.1))

    pub role_many : (n : ℕ) → IsRefAt h b.namespace b.role (RoleAt k) → 1000000 < n + length (role_places h at k) → (rules : List SourcedRule) × AreRulesFor h b rules × (1000000 < n + length rules)
    role_many n ref l =
        let r = role_rules ref in
        (written_from (InRole r.0) 0 r.0.rules, r.2, omega (arith, l, placed_len h b at here (role_places h at k) (written_from (InRole r.0) 0 r.0.rules) (role_placed h b at here k r.0 r.1)))

    pub sources_added : (ps : List ℕ) → AreSourcesAt h k ps → (old new : List GrantPlace) → IsRefAt h b.namespace b.role (ClusterRoleAt k) → All (λ g. IsSome (grant_at h g)) old → new ≡ old ++ places_in h at ps → (rules : List SourcedRule) × AreRulesFor h b rules × IsAdded h b old new rules
    sources_added ps of old new ref held e =
        let r = source_rules ps of ref in
        (rules_in (roles_at h ps), r.0, added h b at here old new (places_in h at ps) (rules_in (roles_at h ps)) e held (sources_placed h b at here ps r.1))

    pub sources_many : (ps : List ℕ) → AreSourcesAt h k ps → (n : ℕ) → IsRefAt h b.namespace b.role (ClusterRoleAt k) → 1000000 < n + length (places_in h at ps) → (rules : List SourcedRule) × AreRulesFor h b rules × (1000000 < n + length rules)
    sources_many ps of n ref l =
        let r = source_rules ps of ref in
        (rules_in (roles_at h ps), r.0, omega (arith, l, placed_len h b at here (places_in h at ps) (rules_in (roles_at h ps)) (sources_placed h b at here ps r.1)))
