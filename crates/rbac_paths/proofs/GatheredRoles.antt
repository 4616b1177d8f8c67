-- The roles that an aggregated role gathers from, place by place.
use Rattle.std.proofs.Common.{◌≡◌, ◌<◌, ◌∙◌, ◌↔◌, ◌+◌, ◌++◌, ◌∷◌, [], ℕ, List, Some, All, Contains, ap, get_or, length, refl, slice_get, subst, sym}
use Rattle.std.specs.List.{filter_map}
use Rattle.std.proofs.lemmas.List.Elements.{Contains-get_or, filter_map-append}
use Rattle.std.proofs.lemmas.Option.{same_Some, slice_get_within}
use Rattle.rbac_terms.specs.declared.granting.ClusterRole.{ClusterRole}
use Rattle.rbac_model.specs.Lists.{IsUpTo}
use Rattle.rbac_model.specs.Policies.{AreGathered, Held, IsHeld, IsPlain, Reaches}
use Rattle.rbac_model.proofs.Gathered.{in_roles, roles_ascend, roles_in}
use Rattle.rbac_model.proofs.Stairs.{read_contains, reached_held}
use Rattle.rbac_model.proofs.UpTo.{all_kept, none_yet, not_more, one_more}
use Rattle.rbac_paths.specs.Told.{IsSourceAt}

-- these are the roles that the cluster role gathers from, among the places below `to`
abbrev pub AreSourcesTo : Held → ClusterRole → ℕ → List ClusterRole → Type 0
AreSourcesTo h r to ss = (ks : List ℕ) × IsUpTo (IsSourceAt h r) ks to × (ss ≡ filter_map (slice_get h.cluster_roles) ks)

module _ (h : Held) (r : ClusterRole) where
  pub no_sources : (ss : List ClusterRole) → ss ≡ [] → AreSourcesTo h r 0 ss
  no_sources ss none = ([], none_yet (IsSourceAt h r), none)

  pub source_more : (to : ℕ) (s : ClusterRole) (ss new : List ClusterRole) → slice_get h.cluster_roles to ≡ Some s → IsSourceAt h r to → new ≡ ss ++ s ∷ [] → AreSourcesTo h r to ss → AreSourcesTo h r (to + 1) new
  source_more to s ss new here is e (ks, up, are) =
      let read : filter_map (slice_get h.cluster_roles) (to ∷ []) ≡ s ∷ [] = rw here refl in (
        ks ++ to ∷ [],
        one_more (IsSourceAt h r) ks to is up,
        e ∙ ap (λ (xs : List ClusterRole). xs ++ s ∷ []) are ∙ ap (λ (xs : List ClusterRole). filter_map (slice_get h.cluster_roles) ks ++ xs) (sym read)
            ∙ sym (filter_map-append (slice_get h.cluster_roles) ks (to ∷ [])),
      )

  pub no_source_more : (to : ℕ) (ss : List ClusterRole) → ¬ IsSourceAt h r to → AreSourcesTo h r to ss → AreSourcesTo h r (to + 1) ss
  no_source_more to ss isnt (ks, up, are) = (ks, not_more (IsSourceAt h r) ks to isnt up, are)

  -- all roles that the cluster role gathers from
  module _ (held : IsHeld h) (ks : List ℕ) (up : IsUpTo (IsSourceAt h r) ks (length h.cluster_roles)) where
    exact : (k : ℕ) → Contains ks k ↔ IsSourceAt h r k
    exact = all_kept (IsSourceAt h r) ks (length h.cluster_roles) (λ k p. slice_get_within h.cluster_roles k p.0.0 p.0.1) up

    within : All (λ k. k < length h.cluster_roles) ks
    within i d l = let p = ((exact (get_or ks i d)).0 (Contains-get_or ks i d l)).0 in slice_get_within h.cluster_roles (get_or ks i d) p.0 p.1

    are_gathered : AreGathered h r (filter_map (slice_get h.cluster_roles) ks)
    are_gathered = record {
      ordered = roles_ascend h.cluster_roles held.cluster_roles ks up.ascending within;
      exact = λ s. (
        λ w.
            let a = in_roles h.cluster_roles held.cluster_roles ks up.ascending within s w in
            let is = (exact a.0).0 a.1 in
            (subst IsPlain (same_Some is.1.0 s (sym is.1.1 ∙ a.2)) is.1.2, subst (Reaches h r) (same_Some is.0.0 s (sym is.0.1 ∙ a.2)) is.0.2),
        λ p.
            let at = read_contains h.cluster_roles s (reached_held h r s p.1) in
            roles_in h.cluster_roles held.cluster_roles ks up.ascending within at.0 s ((exact at.0).1 ((s, at.1, p.1), (s, at.1, p.0))) at.1,
      );
    }

  pub all_sources : IsHeld h → (to : ℕ) → to ≡ length h.cluster_roles → (ss : List ClusterRole) → AreSourcesTo h r to ss → AreGathered h r ss
  all_sources held to end ss (ks, up, are) =
      subst (λ (xs : List ClusterRole). AreGathered h r xs) (sym are) (are_gathered held ks (subst (λ (n : ℕ). IsUpTo (IsSourceAt h r) ks n) end up))
