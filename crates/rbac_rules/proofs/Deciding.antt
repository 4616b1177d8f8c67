-- the rules that somebody has decide what they may do
use Rattle.std.proofs.Common.{◌≡◌, ◌∙◌, ℕ, List, [], ◌∷◌, ◌⊎◌, inl, inr, sym, ap, subst, refl, arith, zero, suc, slice_get, Any}
use Rattle.std.specs.Prelude.{Option, Some, None}
use Rattle.std.proofs.lemmas.Option.{same_Some, slice_get-get_or}
use Rattle.rbac_terms.specs.Text.{Text}
use Rattle.rbac_terms.specs.Targets.{What, Resource, Url}
use Rattle.rbac_terms.specs.Principals.{Who}
use Rattle.rbac_terms.specs.Matching.{RuleAllows}
use Rattle.rbac_model.specs.Lists.{IsFirstAt}
use Rattle.rbac_model.specs.Policies.{PolicyView, IsPolicy, GrantView, GrantAllows, Live}
use Rattle.rbac_model.proofs.GrantNumbers.{some_grant, grant_allows, any_at}
use Rattle.rbac_terms.specs.declared.scope.Scope.{Scope}
use Rattle.rbac_terms.specs.declared.scope.Scope.TheVariants.{Anywhere, Namespace, ClusterWide}
use Rattle.rbac_model.specs.Scopes.{MayBeLiveIn}
use Rattle.rbac_rules.specs.Effective.{RuleView, Has, IsByFirstSubject, AreRulesBy, AreEffective, AllowsThere, Decide, Explain}
use Rattle.rbac_rules.proofs.RuleLists.{later_first}

split : (P : RuleView → Type 0) (x : RuleView) (xs : List RuleView) → Any P (x ∷ xs) → P x ⊎ Any P xs
split P x xs (zero, y, l, at, h) = inl (subst P (sym at) h)
split P x xs (suc k, y, l, at, h) = inr (k, y, omega arith, at, h)

module _ (who : Who) (scope : Scope) (P : GrantView → Type 0) where
  -- what a grant has, whose rule somebody has, is among their rules
  had_in : (gs : List GrantView) (xs : List RuleView) → AreRulesBy who scope gs xs → (n : ℕ) (g : GrantView) → slice_get gs n ≡ Some g → Has who scope g → P g → Any (λ (x : RuleView). P x.grant) xs
  had_in [] xs are n g at has h = cc
  had_in (f ∷ gs) xs (inl a) zero g at has h = absurd (a.0 (subst (Has who scope) (sym (same_Some f g at)) has))
  had_in (f ∷ gs) xs (inl a) (suc n) g at has h = had_in gs xs a.1 n g at has h
  had_in (f ∷ gs) xs (inr a) zero g at has h =
      let here : P a.1.0.grant = subst P (sym (a.1.2 ∙ same_Some f g at)) h in
      subst (Any (λ (x : RuleView). P x.grant)) (sym a.1.5) (0, a.1.0, omega arith, refl, here)
  had_in (f ∷ gs) xs (inr a) (suc n) g at has h =
      let w = had_in gs a.1.1 a.1.4 n g at has h in
      subst (Any (λ (x : RuleView). P x.grant)) (sym a.1.5) (suc w.0, w.1, omega (arith, w.2), w.3, w.4)

  -- each of somebody's rules is of a grant
  of_grant : (gs : List GrantView) (xs : List RuleView) → AreRulesBy who scope gs xs → Any (λ (x : RuleView). P x.grant) xs → (n : ℕ) × (g : GrantView) × (slice_get gs n ≡ Some g) × Has who scope g × P g
  of_grant [] xs are any = let none = subst (Any (λ (x : RuleView). P x.grant)) are any in absurd (omega (arith, none.2))
  of_grant (f ∷ gs) xs (inl a) any =
      let r = of_grant gs xs a.1 any in
      (suc r.0, r.1, r.2, r.3, r.4)
  of_grant (f ∷ gs) xs (inr a) any = elim (split (λ x. P x.grant) a.1.0 a.1.1 (subst (Any (λ (x : RuleView). P x.grant)) a.1.5 any)) [
    | inl here ↦ (0, f, refl, a.0, subst P a.1.2 here)
    | inr later ↦
        let r = of_grant gs a.1.1 a.1.4 later in
        (suc r.0, r.1, r.2, r.3, r.4)
  ]

in_namespace : (namespace : Text) (own : Option Text) (t : What) → Live own namespace t → MayBeLiveIn (Namespace namespace) own
in_namespace namespace None t live = tt
in_namespace namespace (Some own) (Resource group text name) live = live
in_namespace namespace (Some own) (Url path) live = absurd live

in_none : (own : Option Text) (t : What) → Live own [] t → MayBeLiveIn ClusterWide own
in_none None t live = refl
in_none (Some own) (Resource group text name) live = absurd (live.0 refl)
in_none (Some own) (Url path) live = absurd live

module _ (p : PolicyView) (ok : IsPolicy p) (who : Who) where
  decided : (scope : Scope) (namespace : Text) → ((own : Option Text) (t : What) → Live own namespace t → MayBeLiveIn scope own)
      → (xs : List RuleView) → AreEffective p who scope xs → Decide p who namespace xs
  decided scope namespace reaches xs are verb t =
      let P : GrantView → Type 0 = λ g. Live g.binding.namespace namespace t × RuleAllows g.rule.rule verb t in (
        λ allows.
            let some = some_grant p.held p.grants who namespace verb t ok.0 ok.1 allows in
            let read : slice_get p.grants some.0 ≡ Some some.1 = slice_get-get_or p.grants some.0 some.1 some.2 ∙ ap (λ (v : GrantView). Some v) some.3 in
            had_in who scope P p.grants xs are some.0 some.1 read (reaches some.1.binding.namespace t some.4.0, some.4.1) (some.4.0, some.4.2),
        λ any.
            let r = of_grant who scope P p.grants xs are any in
            grant_allows p ok who namespace verb t (any_at (GrantAllows who namespace verb t) p.grants r.0 r.1 r.2 (r.4.0, r.3.1, r.4.1)),
      )

  pub decided_there : (namespace : Text) (xs : List RuleView) → AreEffective p who (Namespace namespace) xs → Decide p who namespace xs
  decided_there namespace = decided (Namespace namespace) namespace (in_namespace namespace)

  pub decided_anywhere : (namespace : Text) (xs : List RuleView) → AreEffective p who Anywhere xs → Decide p who namespace xs
  decided_anywhere namespace = decided Anywhere namespace (λ own t live. tt)

  pub decided_cluster_wide : (xs : List RuleView) → AreEffective p who ClusterWide xs → Decide p who [] xs
  decided_cluster_wide = decided ClusterWide [] in_none

module _ (p : PolicyView) (who : Who) where
  -- the first grant that allows is that of the first rule that does
  first_had : (scope : Scope) (namespace verb : Text) (t : What) → ((own : Option Text) → Live own namespace t → MayBeLiveIn scope own)
      → (gs : List GrantView) (xs : List RuleView) (i : ℕ) (x : RuleView) → AreRulesBy who scope gs xs → IsFirstAt (AllowsThere namespace verb t) xs i x
      → ((no : ℕ) × IsFirstAt (GrantAllows who namespace verb t) gs no x.grant) × IsByFirstSubject who x
  first_had scope namespace verb t reaches [] xs i x are first = let none = sym (ap (λ (l : List RuleView). slice_get l i) are) ∙ first.here in cc
  first_had scope namespace verb t reaches (g ∷ gs) xs i x (inl a) first =
      let r = first_had scope namespace verb t reaches gs xs i x a.1 first in
      ((suc r.0.0, later_first (GrantAllows who namespace verb t) g gs r.0.0 x.grant (λ h. a.0 (reaches g.binding.namespace h.0, h.1)) r.0.1), r.1)
  first_had scope namespace verb t reaches (g ∷ gs) xs zero x (inr a) first =
      let y = a.1.0 in
      let same : y ≡ x = same_Some y x (sym (ap (λ (l : List RuleView). slice_get l 0) a.1.5) ∙ first.here) in
      let e : x.grant ≡ g = ap (λ (r : RuleView). r.grant) (sym same) ∙ a.1.2 in
      let has : Has who scope x.grant = subst (Has who scope) (sym e) a.0 in (
        (0, record { here = ap (λ (v : GrantView). Some v) (sym e); holds = (first.holds.0, has.1, first.holds.1); none_before = λ k z lt read h. omega arith }),
        subst (IsByFirstSubject who) same a.1.3,
      )
  first_had scope namespace verb t reaches (g ∷ gs) xs (suc i) x (inr a) first =
      let P = AllowsThere namespace verb t in
      let y = a.1.0 in
      let whole : IsFirstAt P (y ∷ a.1.1) (suc i) x = subst (λ (l : List RuleView). IsFirstAt P l (suc i) x) a.1.5 first in
      let rest : IsFirstAt P a.1.1 i x = record {
        here = whole.here;
        holds = whole.holds;
        none_before = λ k z lt read. whole.none_before (suc k) z (omega arith) read;
      } in
      let r = first_had scope namespace verb t reaches gs a.1.1 i x a.1.4 rest in
      let Q : GrantView → Type 0 = λ v. Live v.binding.namespace namespace t × RuleAllows v.rule.rule verb t in
      let not_here : ¬ GrantAllows who namespace verb t g = λ h. whole.none_before 0 y (omega arith) refl (subst Q (sym a.1.2) (h.0, h.2)) in
      ((suc r.0.0, later_first (GrantAllows who namespace verb t) g gs r.0.0 x.grant not_here r.0.1), r.1)

  explained : (scope : Scope) (namespace : Text) → ((own : Option Text) (t : What) → Live own namespace t → MayBeLiveIn scope own)
      → (xs : List RuleView) → AreEffective p who scope xs → Explain p who namespace xs
  explained scope namespace reaches xs are verb t i x first =
      let r = first_had scope namespace verb t (λ own. reaches own t) p.grants xs i x are first in
      record { grant = r.0; subject = r.1 }

  pub explained_there : (namespace : Text) (xs : List RuleView) → AreEffective p who (Namespace namespace) xs → Explain p who namespace xs
  explained_there namespace = explained (Namespace namespace) namespace (in_namespace namespace)

  pub explained_anywhere : (namespace : Text) (xs : List RuleView) → AreEffective p who Anywhere xs → Explain p who namespace xs
  explained_anywhere namespace = explained Anywhere namespace (λ own t live. tt)

  pub explained_cluster_wide : (xs : List RuleView) → AreEffective p who ClusterWide xs → Explain p who [] xs
  explained_cluster_wide = explained ClusterWide [] in_none
