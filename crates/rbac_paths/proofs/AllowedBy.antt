-- The holdings of a node decide which requests it allows, and so what it can take over.
use Rattle.std.proofs.Common.{◌≡◌, ◌∷◌, [], List, Option, Some, Any, ap, arith, inl, inr, length, length-append, refl, subst, sym}
use Rattle.std.specs.Prelude.{codes}
use Rattle.rbac_terms.specs.Matching.{EndsInStar, RuleAllows, VerbOk}
use Rattle.rbac_terms.specs.Targets.{Resource, Url, What}
use Rattle.rbac_terms.specs.Text.{Text, star}
use Rattle.rbac_terms.specs.declared.matching.Rule.{Rule}
use Rattle.rbac_model.specs.Policies.{IsPolicy, Live, PolicyView, SourcedRule}
use Rattle.rbac_model.proofs.GrantNumbers.{grant_allows, some_grant}
use Rattle.rbac_model.proofs.OwnWords.{any_from, any_weaker}
use Rattle.rbac_paths.specs.Having.{AllowBy, AreHoldings, HoldingView, rule_of_all}
use Rattle.rbac_paths.specs.Nodes.{NodeView, Somebody, ClusterRoleIn, OwnRole, EverythingIn}
use Rattle.rbac_paths.specs.Steps.{asked_in}
use Rattle.rbac_paths.specs.Taking.{CanTakeOver, RuleTakes}
use Rattle.rbac_paths.specs.Told.{HoldingTakes, HoldingsTake}
use Rattle.rbac_steps.specs.declared.steps.Step.{Step}
use Rattle.rbac_paths.proofs.ByRules.{rule_takes, takes_over}

-- ---- the rule that allows every request

no_star : EndsInStar [] → ⊥
no_star w = absurd (omega (arith, ap length w.1, length-append w.0 (star ∷ [])))

every_verb : (verb : Text) → VerbOk rule_of_all verb
every_verb verb = (0, codes "*", omega arith, refl, inl refl)

all_allowed : (verb : Text) (t : What) → RuleAllows rule_of_all verb t
all_allowed verb (Resource group text name) =
    (every_verb verb, ((0, codes "*", omega arith, refl, inl refl), (0, codes "*", omega arith, refl, inl (inl refl)), inl refl))
all_allowed verb (Url path) = (every_verb verb, (0, codes "*", omega arith, refl, inr ([], 0, refl, no_star, (path, refl))))

-- ---- which requests the holdings of a node allow

module _ (namespace verb : Text) (t : What) where
  live_there : (home other : Option Text) → home ≡ other → Live other namespace t → Live home namespace t
  live_there home other is = subst (λ (o : Option Text). Live o namespace t) (sym is)

  allows_too : (rule other : Rule) → rule ≡ other → RuleAllows other verb t → RuleAllows rule verb t
  allows_too rule other is = subst (λ (r : Rule). RuleAllows r verb t) (sym is)

  some_rule_allows : (rules : List SourcedRule) (rule : Rule) → Any (λ r. r.rule ≡ rule) rules → RuleAllows rule verb t → Any (λ r. RuleAllows r.rule verb t) rules
  some_rule_allows rules rule some allows =
      any_weaker (λ r. r.rule ≡ rule) (λ r. RuleAllows r.rule verb t) rules (λ r is. allows_too r.rule rule is allows) some

pub allow_by : (p : PolicyView) → IsPolicy p → (x : NodeView) → AllowBy p x
allow_by p ok (Somebody who) namespace verb t = (
  λ allowed.
      (let a = some_grant p.held p.grants who namespace verb t ok.0 ok.1 allowed in
      let g = a.1 in
      (record { home = g.binding.namespace; rule = g.rule.rule }, (a.0, g, a.2, a.3, (a.4.1, refl, refl)), a.4.0, a.4.2)),
  λ w.
      (let by = w.1 in
      let g = by.1 in
      grant_allows p ok who namespace verb t
      (by.0, g, by.2, by.3, (live_there namespace verb t g.binding.namespace w.0.home by.4.1 w.2, by.4.0, allows_too namespace verb t g.rule.rule w.0.rule by.4.2 w.3))),
)
allow_by p ok (ClusterRoleIn role scope) namespace verb t = (
  λ a. (let some = a.1.2 in (record { home = scope; rule = some.1.rule }, (refl, (a.1.0, a.1.1, (some.0, some.1, some.2, some.3, refl))), a.0, some.4)),
  λ w. (let has = w.1.1 in (live_there namespace verb t scope w.0.home w.1.0 w.2, (has.0, has.1, some_rule_allows namespace verb t has.0 w.0.rule has.2 w.3))),
)
allow_by p ok (OwnRole role) namespace verb t = (
  λ a. (let some = a.1.2 in (record { home = Some role.namespace; rule = some.1.rule }, (refl, (a.1.0, a.1.1, (some.0, some.1, some.2, some.3, refl))), a.0, some.4)),
  λ w. (let has = w.1.1 in (live_there namespace verb t (Some role.namespace) w.0.home w.1.0 w.2, (has.0, has.1, some_rule_allows namespace verb t has.0 w.0.rule has.2 w.3))),
)
allow_by p ok (EverythingIn scope) namespace verb t = (
  λ live. (record { home = scope; rule = rule_of_all }, (refl, refl), live, all_allowed verb t),
  λ w. live_there namespace verb t scope w.0.home w.1.0 w.2,
)

-- ---- what the holdings of a node take over

module _ (p : PolicyView) (ok : IsPolicy p) (x : NodeView) (hs : List HoldingView) (are : AreHoldings p x hs) (step : Step) (y : NodeView) where
  pub by_holdings : HoldingsTake step hs y → CanTakeOver p x step y
  unfolding HoldingsTake HoldingTakes
  by_holdings a =
      let h = a.1 in
      takes_over p x step y h.home h.rule (λ namespace verb t live allows. (allow_by p ok x namespace verb t).1 (h, (are h).0 (a.0, a.2, a.3), live, allows)) a.4

  pub in_holdings : CanTakeOver p x step y → HoldingsTake step hs y
  unfolding HoldingsTake HoldingTakes
  in_holdings c =
      let w = (allow_by p ok x (asked_in c.row.counts c.namespace) c.verb (Resource c.row.group c.text c.name)).0 c.allowed in
      any_from (λ h. RuleTakes step h.home h.rule y) hs w.0 ((are w.0).1 w.1) (rule_takes p x step y w.0.home w.0.rule c w.2 w.3)
