-- A role has the rules that are written in it, or that it gathers, where it is bound.
use Rattle.std.proofs.Common.{◌≡◌, ◌∙◌, ◌↔◌, ◌+◌, ◌++◌, ◌∷◌, [], ℕ, zero, suc, List, Option, Some, Any, Contains, ap, ap₂, append-nil, arith, inl, inr, map, refl, subst, sym}
use Rattle.std.specs.List.{flat_map}
use Rattle.std.proofs.lemmas.List.{map-append}
use Rattle.rbac_terms.specs.Text.{Text}
use Rattle.rbac_terms.specs.declared.granting.ClusterRole.{ClusterRole}
use Rattle.rbac_terms.specs.declared.granting.Role.{Role}
use Rattle.rbac_terms.specs.declared.matching.Rule.{Rule}
use Rattle.rbac_model.specs.Policies.{AreRulesOf, Held, InClusterRole, InRole, PolicyView, Source, SourcedRule, written_from}
use Rattle.rbac_model.proofs.OneList.{one_rules}
use Rattle.rbac_paths.specs.Having.{AreHoldings, HasRoleRule, HoldingView}
use Rattle.rbac_paths.specs.Nodes.{ClusterRoleIn, OwnRole}
use Rattle.rbac_paths.specs.Told.{AreSourceRoles, holdings_at}

-- the holdings of the rules of these roles, which count in `home`
abbrev pub holdings_of : Option Text → List ClusterRole → List HoldingView
holdings_of home ss = flat_map (λ s. holdings_at home s.rules) ss

module _ (home : Option Text) where
  abbrev held_rule : SourcedRule → HoldingView
  held_rule r = record { home = home; rule = r.rule }

  written : (source : Source) (i : ℕ) (rules : List Rule) → map held_rule (written_from source i rules) ≡ holdings_at home rules
  written source i [] = refl
  written source i (r ∷ rs) = ap (λ (hs : List HoldingView). record { home = home; rule = r } ∷ hs) (written source (i + 1) rs)

  gathered : (ss : List ClusterRole) → map held_rule (flat_map (λ s. written_from (InClusterRole s) 0 s.rules) ss) ≡ holdings_of home ss
  gathered [] = refl
  gathered (s ∷ ss) =
      map-append held_rule (written_from (InClusterRole s) 0 s.rules) (flat_map (λ s. written_from (InClusterRole s) 0 s.rules) ss)
      ∙ ap₂ (λ (a : List HoldingView) (b : List HoldingView). a ++ b) (written (InClusterRole s) 0 s.rules) (gathered ss)

  among : (rules : List SourcedRule) (h : HoldingView) → Contains (map held_rule rules) h → (home ≡ h.home) × Any (λ r. r.rule ≡ h.rule) rules
  among [] h c = absurd (omega (arith, c.1))
  among (r ∷ rs) h (zero, l, e) = (ap (λ (x : HoldingView). x.home) e, (0, r, omega arith, refl, ap (λ (x : HoldingView). x.rule) e))
  among (r ∷ rs) h (suc k, l, e) = let w = among rs h (k, omega arith, e) in (w.0, (suc w.1.0, w.1.1, omega (arith, w.1.2), w.1.3, w.1.4))

  found : (rules : List SourcedRule) (h : HoldingView) → home ≡ h.home → Any (λ r. r.rule ≡ h.rule) rules → Contains (map held_rule rules) h
  found [] h at a = absurd (omega (arith, a.2))
  found (r ∷ rs) h at (zero, x, l, e, is) = (0, omega arith, ap₂ (λ (o : Option Text) (rule : Rule). record { home = o; rule = rule }) at (ap (λ (y : SourcedRule). y.rule) e ∙ is))
  found (r ∷ rs) h at (suc k, x, l, e, is) = let w = found rs h at (k, x, omega arith, e, is) in (suc w.0, omega (arith, w.1), w.2)

  -- the holdings of a role that is bound in `home`
  module _ (held : Held) (role : Source) (rules : List SourcedRule) (are : AreRulesOf held role rules) (hs : List HoldingView) (is : hs ≡ map held_rule rules) (h : HoldingView) where
    role_has : Contains hs h ↔ ((home ≡ h.home) × HasRoleRule held role h.rule)
    role_has = (
      λ c. (let w = among rules h (subst (λ (xs : List HoldingView). Contains xs h) is c) in (w.0, (rules, are, w.1))),
      λ w. subst (λ (xs : List HoldingView). Contains xs h) (sym is) (found rules h w.0 (subst (λ (rs : List SourcedRule). Any (λ r. r.rule ≡ h.rule) rs) (one_rules held role w.1.0 rules w.1.1 are) w.1.2)),
    )

-- the holdings of a Role
pub own_has : (p : PolicyView) (role : Role) (hs : List HoldingView) → hs ≡ holdings_at (Some role.namespace) role.rules → AreHoldings p (OwnRole role) hs
own_has p role hs is h =
    let rules = written_from (InRole role) 0 role.rules in
    role_has (Some role.namespace) p.held (InRole role) rules refl hs (is ∙ sym (written (Some role.namespace) (InRole role) 0 role.rules)) h

-- the holdings of a cluster role
pub cluster_role_has : (p : PolicyView) (role : ClusterRole) (home : Option Text) (ss : List ClusterRole) → AreSourceRoles p.held role ss → (hs : List HoldingView) → hs ≡ holdings_of home ss → AreHoldings p (ClusterRoleIn role home) hs
cluster_role_has p role home ss (inl (plain, own)) hs is h =
    let rules = written_from (InClusterRole role) 0 role.rules in
    role_has home p.held (InClusterRole role) rules (inl (plain, refl)) hs
    (is ∙ ap (holdings_of home) own ∙ append-nil (holdings_at home role.rules) ∙ sym (written home (InClusterRole role) 0 role.rules)) h
cluster_role_has p role home ss (inr (aggregated, are)) hs is h =
    let rules = flat_map (λ s. written_from (InClusterRole s) 0 s.rules) ss in
    role_has home p.held (InClusterRole role) rules (inr (aggregated, (ss, are, refl))) hs (is ∙ sym (gathered home ss)) h
