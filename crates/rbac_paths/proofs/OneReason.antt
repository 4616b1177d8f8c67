-- A node has one reason at most for each aim.
use Rattle.std.proofs.Common.{◌≡◌, ◌∙◌, ℕ, List, Option, Some, ap, ap₂, sym, subst, refl}
use Rattle.rbac_terms.specs.Text.{Text}
use Rattle.rbac_terms.specs.Granting.{Names}
use Rattle.rbac_terms.specs.Principals.{Who}
use Rattle.rbac_model.specs.Lists.{IsFirstAt}
use Rattle.rbac_model.specs.Policies.{GrantView, Held, InClusterRole, InRole, PolicyView, Source, SourcedRule}
use Rattle.rbac_model.proofs.OneList.{one_rules}
use Rattle.rbac_paths.specs.Aims.{AimView, GrantServes, Serves}
use Rattle.rbac_paths.specs.Nodes.{NodeView, Somebody, ClusterRoleIn, OwnRole, EverythingIn}
use Rattle.rbac_paths.specs.Reasons.{ByAll, ByGrant, ByRule, IsFirstRule, IsNamedAt, IsReason, ReasonView}
use Rattle.rbac_model.proofs.Firsts.{one_place, one_first}

one_grant : (p : PolicyView) (who : Who) (aim : AimView) (g k : GrantView) (i j : ℕ)
    → IsReason p (Somebody who) aim (ByGrant g i)
    → IsReason p (Somebody who) aim (ByGrant k j)
    → ByGrant g i ≡ ByGrant k j
one_grant p who aim g k i j (named, (n, a)) (names, (m, b)) =
    let grants : g ≡ k = one_first (GrantServes aim who) p.grants n m g k a b in
    let there : IsNamedAt g who j = subst (λ (x : GrantView). IsNamedAt x who j) (sym grants) names in
    let places : i ≡ j = one_place (λ s. Names s g.binding.namespace who) g.binding.subjects i j named.0 there.0 named.1 there.1 in
    ap₂ ByGrant grants places

one_rule : (h : Held) (role : Source) (home : Option Text) (aim : AimView) (source other : Source) (place spot : ℕ)
    → IsFirstRule h role home aim source place
    → IsFirstRule h role home aim other spot
    → ByRule source place ≡ ByRule other spot
one_rule h role home aim source other place spot (rules, are, (n, r, a, rs, rp)) (same, those, (m, q, b, qs, qp)) =
    let lists : same ≡ rules = one_rules h role same rules those are in
    let P : SourcedRule → Type 0 = λ r. Serves aim home r.rule in
    let there : IsFirstAt P rules m q = subst (λ (xs : List SourcedRule). IsFirstAt P xs m q) lists b in
    let first : r ≡ q = one_first P rules n m r q a there in
    ap₂ ByRule (sym rs ∙ ap (λ (x : SourcedRule). x.source) first ∙ qs) (sym rp ∙ ap (λ (x : SourcedRule). x.place) first ∙ qp)

pub one_reason : (p : PolicyView) (x : NodeView) (aim : AimView) (reason other : ReasonView) → IsReason p x aim reason → IsReason p x aim other
    → reason ≡ other
one_reason p (Somebody who) aim (ByGrant g i) (ByGrant k j) a b = one_grant p who aim g k i j a b
one_reason p (ClusterRoleIn role scope) aim (ByRule source place) (ByRule other spot) a b =
    one_rule p.held (InClusterRole role) scope aim source other place spot a b
one_reason p (OwnRole role) aim (ByRule source place) (ByRule other spot) a b =
    one_rule p.held (InRole role) (Some role.namespace) aim source other place spot a b
one_reason p (EverythingIn scope) aim ByAll ByAll a b = refl
one_reason p (Somebody who) aim (ByRule source place) other a b = absurd a
one_reason p (Somebody who) aim ByAll other a b = absurd a
one_reason p (Somebody who) aim (ByGrant g i) (ByRule other spot) a b = absurd b
one_reason p (Somebody who) aim (ByGrant g i) ByAll a b = absurd b
one_reason p (ClusterRoleIn role scope) aim (ByGrant g i) other a b = absurd a
one_reason p (ClusterRoleIn role scope) aim ByAll other a b = absurd a
one_reason p (ClusterRoleIn role scope) aim (ByRule source place) (ByGrant k j) a b = absurd b
one_reason p (ClusterRoleIn role scope) aim (ByRule source place) ByAll a b = absurd b
one_reason p (OwnRole role) aim (ByGrant g i) other a b = absurd a
one_reason p (OwnRole role) aim ByAll other a b = absurd a
one_reason p (OwnRole role) aim (ByRule source place) (ByGrant k j) a b = absurd b
one_reason p (OwnRole role) aim (ByRule source place) ByAll a b = absurd b
one_reason p (EverythingIn scope) aim (ByGrant g i) other a b = absurd a
one_reason p (EverythingIn scope) aim (ByRule source place) other a b = absurd a
one_reason p (EverythingIn scope) aim ByAll (ByGrant k j) a b = absurd b
one_reason p (EverythingIn scope) aim ByAll (ByRule other spot) a b = absurd b
