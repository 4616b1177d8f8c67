-- The other nodes that a node takes over, roles and everything, one after another.
use Rattle.std.proofs.Common.{◌≡◌, ◌⊎◌, ◌↔◌, ◌∙◌, ◌<◌, ◌+◌, ◌++◌, ℕ, Bor, List, [], ◌∷◌, Option, None, Some, IsSome, MatchOption, Any, Contains, false, refl, true, ap, arith, get_or, inl, inr, length, slice_get, subst, sym, take}
use Rattle.std.proofs.lemmas.List.{take_more}
use Rattle.std.proofs.lemmas.List.Elements.{Contains-append_left, Contains-push, Contains-push_cases}
use Rattle.std.proofs.lemmas.Option.{same_Some}
use Rattle.rbac_terms.specs.Matching.{VerbOk}
use Rattle.rbac_terms.specs.Targets.{Resource}
use Rattle.rbac_terms.specs.Text.{Text}
use Rattle.rbac_model.proofs.OwnWords.{any_from}
use Rattle.rbac_model.specs.Policies.{GrantView, Live, PolicyView}
use Rattle.rbac_paths.specs.Deciding.{IsAnyNode}
use Rattle.rbac_paths.specs.Having.{HoldingView}
use Rattle.rbac_paths.specs.Joints.{AreAskedPlaces, AreOthers, AreOthersAt, AreOverOthers, AreScoped, CountsAt, DecideOn, IsAboutNode, IsNobody, IsOther, IsOverNobody, IsOverOthersAt, MatchesOverOthers, MayTakeBy, SomeMayTake, scope_at}
use Rattle.rbac_paths.specs.Nodes.{NodeView, Somebody, ClusterRoleIn, OwnRole, EverythingIn}
use Rattle.rbac_paths.specs.Rows.{HasRowResource}
use Rattle.rbac_paths.specs.Steps.{StepRowView, asked_in, table}
use Rattle.rbac_paths.specs.Taking.{IsOver, RowTakes, RuleTakes, scope_namespace}
use Rattle.rbac_paths.specs.TakingOver.{TakesOver}
use Rattle.rbac_paths.specs.Told.{HoldingTakes, HoldingsTake, IsFirstTold, grant_holding}
use Rattle.rbac_steps.specs.declared.steps.Step.{Step}
use Rattle.rbac_paths.specs.declared.table.Counts.{Counts}
use Rattle.rbac_paths.specs.declared.table.Over.{Over}
use Rattle.rbac_paths.specs.declared.table.Over.TheVariants as over
use Rattle.rbac_paths.proofs.Counting.{live_counts, not_empty}

-- a row by which a rule takes over a role or everything is a row for roles or everything, and the
-- rule matches it
pub over_nobody : (o : Over) (counts : Counts) (y : NodeView) (namespace own : Text) → IsNobody y → IsOver o counts y namespace own → IsOverNobody o
over_nobody over.Users counts (Somebody who) namespace own nobody is = nobody
over_nobody over.Users counts (ClusterRoleIn role scope) namespace own nobody is = is
over_nobody over.Users counts (OwnRole role) namespace own nobody is = is
over_nobody over.Users counts (EverythingIn scope) namespace own nobody is = is
over_nobody over.Groups counts (Somebody who) namespace own nobody is = nobody
over_nobody over.Groups counts (ClusterRoleIn role scope) namespace own nobody is = is
over_nobody over.Groups counts (OwnRole role) namespace own nobody is = is
over_nobody over.Groups counts (EverythingIn scope) namespace own nobody is = is
over_nobody over.Bootstrappers counts (Somebody who) namespace own nobody is = nobody
over_nobody over.Bootstrappers counts (ClusterRoleIn role scope) namespace own nobody is = is
over_nobody over.Bootstrappers counts (OwnRole role) namespace own nobody is = is
over_nobody over.Bootstrappers counts (EverythingIn scope) namespace own nobody is = is
over_nobody over.Accounts counts (Somebody who) namespace own nobody is = nobody
over_nobody over.Accounts counts (ClusterRoleIn role scope) namespace own nobody is = is
over_nobody over.Accounts counts (OwnRole role) namespace own nobody is = is
over_nobody over.Accounts counts (EverythingIn scope) namespace own nobody is = is
over_nobody over.Everything counts y namespace own nobody is = tt
over_nobody over.EverythingInNamespace counts y namespace own nobody is = tt
over_nobody over.ClusterRoles counts y namespace own nobody is = tt
over_nobody over.Roles counts y namespace own nobody is = tt
over_nobody over.Nothing counts y namespace own nobody is = is

matches : (h : HoldingView) (y : NodeView) (row : StepRowView) → IsNobody y → RowTakes row h.home h.rule y → MatchesOverOthers h.rule row
matches h y row nobody w = (
  over_nobody row.over row.counts y w.namespace w.own nobody w.over,
  (
    any_from (VerbOk h.rule) row.verbs w.verb w.of_verbs w.allows.0,
    w.allows.1.0,
    any_from (HasRowResource h.rule) row.resources w.text w.of_resources w.allows.1.1,
  ),
)

pub matches_step : (h : HoldingView) (y : NodeView) (step : Step) → IsNobody y → RuleTakes step h.home h.rule y → MayTakeBy h.rule step
unfolding MayTakeBy
matches_step h y step nobody a =
    any_from (λ row. (row.step ≡ step) × MatchesOverOthers h.rule row) table a.1 (a.0, a.2, a.3) (a.4.0, matches h y a.1 nobody a.4.1)

-- a rule takes over a role, or everything, only in a scope where the rule counts
at_scope : (home : Option Text) (counts : Counts) (namespace : Text) (scope : Option Text) (group text name : Text) → Live home (asked_in counts namespace) (Resource group text name) → namespace ≡ scope_namespace scope
    → (home ≡ None) ⊎ (home ≡ scope)
at_scope None counts namespace scope group text name live e = inl refl
at_scope (Some own) counts namespace None group text name live e = absurd (let w = live_counts counts own namespace group text name live in not_empty counts own w.0 (w.1 ∙ e))
at_scope (Some own) counts namespace (Some there) group text name live e = inr (ap Some ((live_counts counts own namespace group text name live).1 ∙ e))

over_scope : (o : Over) (counts : Counts) (y : NodeView) (namespace own : Text) → IsNobody y → IsOver o counts y namespace own → namespace ≡ scope_namespace (scope_at y)
over_scope o counts (Somebody who) namespace own nobody is = absurd nobody
over_scope over.Nothing counts y namespace own nobody is = absurd is
over_scope over.Users counts (ClusterRoleIn role scope) namespace own nobody is = absurd is
over_scope over.Groups counts (ClusterRoleIn role scope) namespace own nobody is = absurd is
over_scope over.Bootstrappers counts (ClusterRoleIn role scope) namespace own nobody is = absurd is
over_scope over.Accounts counts (ClusterRoleIn role scope) namespace own nobody is = absurd is
over_scope over.Everything counts (ClusterRoleIn role scope) namespace own nobody is = absurd is
over_scope over.EverythingInNamespace counts (ClusterRoleIn role scope) namespace own nobody is = absurd is
over_scope over.ClusterRoles counts (ClusterRoleIn role scope) namespace own nobody is = is.0
over_scope over.Roles counts (ClusterRoleIn role scope) namespace own nobody is = absurd is
over_scope over.Users counts (OwnRole role) namespace own nobody is = absurd is
over_scope over.Groups counts (OwnRole role) namespace own nobody is = absurd is
over_scope over.Bootstrappers counts (OwnRole role) namespace own nobody is = absurd is
over_scope over.Accounts counts (OwnRole role) namespace own nobody is = absurd is
over_scope over.Everything counts (OwnRole role) namespace own nobody is = absurd is
over_scope over.EverythingInNamespace counts (OwnRole role) namespace own nobody is = absurd is
over_scope over.ClusterRoles counts (OwnRole role) namespace own nobody is = absurd is
over_scope over.Roles counts (OwnRole role) namespace own nobody is = is.0
over_scope over.Users counts (EverythingIn scope) namespace own nobody is = absurd is
over_scope over.Groups counts (EverythingIn scope) namespace own nobody is = absurd is
over_scope over.Bootstrappers counts (EverythingIn scope) namespace own nobody is = absurd is
over_scope over.Accounts counts (EverythingIn scope) namespace own nobody is = absurd is
over_scope over.Everything counts (EverythingIn scope) namespace own nobody is = is.0
over_scope over.EverythingInNamespace counts (EverythingIn None) namespace own nobody is = absurd is
over_scope over.EverythingInNamespace counts (EverythingIn (Some there)) namespace own nobody is = is.0
over_scope over.ClusterRoles counts (EverythingIn scope) namespace own nobody is = absurd is
over_scope over.Roles counts (EverythingIn scope) namespace own nobody is = absurd is

pub counts_there : (h : HoldingView) (y : NodeView) (step : Step) → IsNobody y → RuleTakes step h.home h.rule y → CountsAt (scope_at y) h
counts_there h y step nobody a =
    let row = a.1 in
    let w = a.4.1 in
    at_scope h.home row.counts w.namespace (scope_at y) row.group w.text w.name w.live (over_scope row.over row.counts y w.namespace w.own nobody w.over)

-- a node is everything in the whole cluster, or another node
whole_or_other : (y : NodeView) → (y ≡ EverythingIn None) ⊎ (y ≡ EverythingIn None → ⊥)
whole_or_other (Somebody who) = inr (λ e. cc)
whole_or_other (ClusterRoleIn role scope) = inr (λ e. cc)
whole_or_other (OwnRole role) = inr (λ e. cc)
whole_or_other (EverythingIn None) = inl refl
whole_or_other (EverythingIn (Some namespace)) = inr (λ e. cc)

-- everything in the whole cluster is taken over only by a holding that counts there
counts_whole : (p : PolicyView) (steps : List Step) (x : NodeView) (few : List HoldingView) → DecideOn p steps x few IsNobody → (y : NodeView) → IsNobody y → y ≡ EverythingIn None → TakesOver p steps x y → Any (CountsAt None) few
unfolding HoldingsTake HoldingTakes
counts_whole p steps x few decide y nobody whole t =
    let a = (decide t.0 y t.1.among nobody).1 t.1.can in
    any_from (CountsAt None) few a.1 (a.0, a.2, a.3) (subst (λ (z : NodeView). CountsAt (scope_at z) a.1) whole (counts_there a.1 y t.0 nobody a.4))

-- of a grant that is known
pub over_at : (p : PolicyView) (steps : List Step) (n : ℕ) (g : GrantView) → slice_get p.grants n ≡ Some g → (May : Type 0) → May ↔ SomeMayTake steps (grant_holding g) → May ↔ IsOverOthersAt p steps n
over_at p steps n g here May same = (
  λ may. (g, here, same.0 may),
  λ w. same.1 (subst (SomeMayTake steps) (ap grant_holding (same_Some w.0 g (sym w.1 ∙ here))) w.2),
)

-- about roles and everything, the holdings whose rules match a row for these decide
pub few_decide : (p : PolicyView) (steps : List Step) (x : NodeView) (hs : List HoldingView) → DecideOn p steps x hs IsAnyNode → (few : List HoldingView)
    → AreOverOthers steps hs few
    → DecideOn p steps x few IsNobody
unfolding HoldingsTake HoldingTakes SomeMayTake
few_decide p steps x hs decide few is step y among nobody = (
  λ a. (decide step y among tt).0 (any_from (λ h. RuleTakes step h.home h.rule y) hs a.1 ((is a.1).0 (a.0, a.2, a.3)).0 a.4),
  λ c. (let w = (decide step y among tt).1 c in
      any_from (λ h. RuleTakes step h.home h.rule y) few w.1 ((is w.1).1 ((w.0, w.2, w.3), any_from (MayTakeBy w.1.rule) steps step among (matches_step w.1 y step nobody w.4))) w.4),
)

-- holdings that decide about all roles and everything also decide about one of these nodes
pub about_node : (p : PolicyView) (steps : List Step) (x : NodeView) (hs : List HoldingView) → DecideOn p steps x hs IsNobody → (y : NodeView) → IsNobody y
    → DecideOn p steps x hs (IsAboutNode y)
about_node p steps x hs decide y nobody step z among (inl same) = decide step z among (subst IsNobody (sym same) nobody)
about_node p steps x hs decide y nobody step z among (inr is) = decide step z among is

-- a node is taken over exactly if there is a first step by which it is
pub told_some : (p : PolicyView) (steps : List Step) (x y : NodeView) (o : Option (Bor Step)) → MatchOption o (TakesOver p steps x y → ⊥) (λ s. IsFirstTold p steps x y s.now) → IsSome o ↔ TakesOver p steps x y
told_some p steps x y None none = (λ is. absurd (let both : false ≡ true = is in cc), λ t. absurd (none t))
told_some p steps x y (Some step) first = (λ is. (step.now, first.1.holds), λ t. refl)

pub no_items : (hs : List HoldingView) → length hs ≡ 0 → hs ≡ []
no_items [] e = refl
no_items (h ∷ hs) e = absurd (omega (arith, e))

module _ (p : PolicyView) (steps : List Step) (x : NodeView) (ys : List NodeView) where
  -- without such holdings, a node takes over no role, and everything nowhere
  pub no_others : DecideOn p steps x [] IsNobody → (js : List ℕ) → js ≡ [] → AreOthers p steps x ys js
  unfolding HoldingsTake
  no_others decide js empty j = (
    λ c. absurd (let low = (subst (λ (ks : List ℕ). Contains ks j) empty c).1 in omega (arith, low)),
    λ o. absurd (let t = o.3 in let a = (decide t.0 o.0 t.1.among o.2).1 t.1.can in let low = a.2 in omega (arith, low)),
  )

  -- a node takes over other nodes only at the places that are checked
  pub others_all : (few scoped : List HoldingView) → DecideOn p steps x few IsNobody → AreScoped p steps x scoped → (places js : List ℕ) → AreAskedPlaces ys few scoped places
      → AreOthersAt p steps x ys places js → AreOthers p steps x ys js
  others_all few scoped decide in_scopes places js asked of j = (
    λ c. ((of j).0 c).1,
    λ o. (of j).1 (there o, o),
  ) where
    there : IsOther p steps x ys j → Contains places j
    there (y, at, nobody, t) = elim (whole_or_other y) [
      | inl whole ↦ asked.in_cluster j (at ∙ ap Some whole) (counts_whole p steps x few decide y nobody whole t)
      | inr other ↦ asked.may j y at nobody (in_scopes y nobody other t)
    ]
