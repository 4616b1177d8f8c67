-- In which scopes a node takes over roles, or everything in a namespace: only by `bind` and
-- `escalate`.
use Rattle.std.proofs.Common.{◌≡◌, ◌∙◌, ◌⊎◌, Bool, false, true, List, [], ◌∷◌, None, Option, Some, Contains, ap, arith, inl, inr, refl, subst, sym}
use Rattle.rbac_terms.specs.Matching.{NameMatches}
use Rattle.rbac_terms.specs.Text.{Text}
use Rattle.rbac_terms.specs.declared.matching.Rule.{Rule}
use Rattle.rbac_model.proofs.OwnWords.{any_from}
use Rattle.rbac_model.specs.Policies.{PolicyView}
use Rattle.rbac_paths.specs.Having.{HoldingView}
use Rattle.rbac_paths.specs.Joints.{AreOverOthers, AreScoped, DecideOn, IsNobody, IsOverNobody, IsRole, MayAsk, MayTakeBy, SomeMayTake, name_at, scope_at}
use Rattle.rbac_paths.specs.Nodes.{NodeView, Somebody, ClusterRoleIn, OwnRole, EverythingIn}
use Rattle.rbac_paths.specs.Steps.{StepRowView, table}
use Rattle.rbac_paths.specs.Taking.{IsOver, RowTakes}
use Rattle.rbac_paths.specs.TakingOver.{HasAll, IsUntold, TakesOver, WritesRoles}
use Rattle.rbac_paths.specs.Told.{HoldingTakes, HoldingsHaveAll, HoldingsTake}
use Rattle.rbac_steps.specs.declared.steps.Step.{Step}
use Rattle.rbac_steps.specs.declared.steps.Step.TheVariants as by
use Rattle.rbac_paths.specs.declared.table.Counts.{Counts}
use Rattle.rbac_paths.specs.declared.table.Counts.TheVariants as counted
use Rattle.rbac_paths.specs.declared.table.Over.{Over}
use Rattle.rbac_paths.specs.declared.table.Over.TheVariants as over
use Rattle.rbac_paths.proofs.Closed.{is_kept, one_of_cluster_roles, one_of_roles, over_cluster_role, over_role}
use Rattle.rbac_paths.proofs.Others.{about_node, counts_there, matches_step, over_nobody}
use Rattle.rbac_paths.proofs.Untold.{has_all}

-- a row that takes over roles or everything is a row of `bind` or `escalate`, or takes over
-- everything in the whole cluster only: the table has no other such row
abbrev writes_nothing : Step → Bool
writes_nothing by.Bind = false
writes_nothing by.Escalate = false
writes_nothing _ = true

abbrev is_strange : Over → Counts → Step → Bool
is_strange over.Users counts step = false
is_strange over.Groups counts step = false
is_strange over.Bootstrappers counts step = false
is_strange over.Accounts counts step = false
is_strange over.Everything counted.ClusterWide step = false
is_strange over.Everything counted.InNamespaces step = writes_nothing step
is_strange over.Everything counted.InKubeSystem step = writes_nothing step
is_strange over.EverythingInNamespace counts step = writes_nothing step
is_strange over.ClusterRoles counts step = writes_nothing step
is_strange over.Roles counts step = writes_nothing step
is_strange over.Nothing counts step = false

none_strange : (r : StepRowView) → Contains table r → is_strange r.over r.counts r.step ≡ true → ⊥
none_strange r c e =
    let kept : Contains [] r = is_kept (λ x. is_strange x.over x.counts x.step) table r c e in
    let low = kept.1 in
    omega (arith, low)

writes : (step : Step) → (writes_nothing step ≡ true → ⊥) → WritesRoles step
writes by.Bind isnt = inl refl
writes by.Escalate isnt = inr refl
writes by.Impersonate isnt = absurd (isnt refl)
writes by.Token isnt = absurd (isnt refl)
writes by.Run isnt = absurd (isnt refl)
writes by.Exec isnt = absurd (isnt refl)
writes by.Secrets isnt = absurd (isnt refl)
writes by.Nodes isnt = absurd (isnt refl)
writes by.Certificates isnt = absurd (isnt refl)
writes by.Webhooks isnt = absurd (isnt refl)
writes by.ApiServices isnt = absurd (isnt refl)
writes by.Bootstrap isnt = absurd (isnt refl)
writes by.Volumes isnt = absurd (isnt refl)
writes by.Namespaces isnt = absurd (isnt refl)

writes_or_wide : (o : Over) (counts : Counts) (step : Step) → IsOverNobody o → (is_strange o counts step ≡ true → ⊥) → WritesRoles step ⊎ ((o ≡ over.Everything) × (counts ≡ counted.ClusterWide))
writes_or_wide over.Users counts step nobody isnt = elim nobody [ ]
writes_or_wide over.Groups counts step nobody isnt = elim nobody [ ]
writes_or_wide over.Bootstrappers counts step nobody isnt = elim nobody [ ]
writes_or_wide over.Accounts counts step nobody isnt = elim nobody [ ]
writes_or_wide over.Everything counted.ClusterWide step nobody isnt = inr (refl, refl)
writes_or_wide over.Everything counted.InNamespaces step nobody isnt = inl (writes step isnt)
writes_or_wide over.Everything counted.InKubeSystem step nobody isnt = inl (writes step isnt)
writes_or_wide over.EverythingInNamespace counts step nobody isnt = inl (writes step isnt)
writes_or_wide over.ClusterRoles counts step nobody isnt = inl (writes step isnt)
writes_or_wide over.Roles counts step nobody isnt = inl (writes step isnt)
writes_or_wide over.Nothing counts step nobody isnt = elim nobody [ ]

whole : (y : NodeView) (namespace own : Text) → IsOver over.Everything counted.ClusterWide y namespace own → y ≡ EverythingIn None
whole (Somebody who) namespace own is = elim is [ ]
whole (ClusterRoleIn role scope) namespace own is = elim is [ ]
whole (OwnRole role) namespace own is = elim is [ ]
whole (EverythingIn scope) namespace own is = ap (λ (s : Option Text). EverythingIn s) is.2

-- if a node takes over everything in the whole cluster by `bind` or `escalate`, these steps leave
-- out all other roles and everything in a namespace
untold : (p : PolicyView) (steps : List Step) (x y : NodeView) → IsNobody y → (y ≡ EverythingIn None → ⊥) → HasAll p steps x None → IsUntold p steps x y
untold p steps x (Somebody who) nobody other all = elim nobody [ ]
untold p steps x (ClusterRoleIn role None) nobody other all = all
untold p steps x (ClusterRoleIn role (Some namespace)) nobody other all = inl all
untold p steps x (OwnRole role) nobody other all = inl all
untold p steps x (EverythingIn None) nobody other all = absurd (other refl)
untold p steps x (EverythingIn (Some namespace)) nobody other all = all

-- a role is one of the other nodes, and isn't everything
is_nobody : (y : NodeView) → IsRole y → IsNobody y
is_nobody (Somebody who) role = elim role [ ]
is_nobody (ClusterRoleIn role scope) is = tt
is_nobody (OwnRole role) is = tt
is_nobody (EverythingIn scope) role = elim role [ ]

isnt_all : (y : NodeView) → IsRole y → y ≡ EverythingIn None → ⊥
isnt_all (Somebody who) role e = elim role [ ]
isnt_all (ClusterRoleIn role scope) is e = cc
isnt_all (OwnRole role) is e = cc
isnt_all (EverythingIn scope) role e = elim role [ ]

-- a role in a scope where these steps take over everything is left out
in_all : (p : PolicyView) (steps : List Step) (x y : NodeView) → IsRole y → HasAll p steps x (scope_at y) → IsUntold p steps x y
in_all p steps x (Somebody who) role all = elim role [ ]
in_all p steps x (ClusterRoleIn role None) is all = all
in_all p steps x (ClusterRoleIn role (Some namespace)) is all = inr (inl all)
in_all p steps x (OwnRole role) is all = inr all
in_all p steps x (EverythingIn scope) role all = elim role [ ]

-- a rule that takes over a role has its name, or isn't limited to names
named_by : (y : NodeView) (home : Option Text) (rule : Rule) (row : StepRowView) → Contains table row → IsNobody y → RowTakes row home rule y → NameMatches rule.resource_names (name_at y) ⊎ (name_at y ≡ [])
named_by (Somebody who) home rule row c nobody w = elim nobody [ ]
named_by (EverythingIn scope) home rule row c nobody w = inr refl
named_by (ClusterRoleIn role scope) home rule row c nobody w =
    let same = one_of_cluster_roles row c (over_cluster_role row.over row.counts role scope w.namespace w.own w.over) in
    let v = subst (λ (r : StepRowView). RowTakes r home rule (ClusterRoleIn role scope)) same w in
    inl (subst (λ (n : Text). NameMatches rule.resource_names n) (v.named ∙ v.over.1) v.allows.1.2)
named_by (OwnRole role) home rule row c nobody w =
    let same = one_of_roles row c (over_role row.over row.counts role w.namespace w.own w.over) in
    let v = subst (λ (r : StepRowView). RowTakes r home rule (OwnRole role)) same w in
    inl (subst (λ (n : Text). NameMatches rule.resource_names n) (v.named ∙ v.over.1) v.allows.1.2)

module _ (p : PolicyView) (steps : List Step) (x : NodeView) (hs : List HoldingView) (decide : DecideOn p steps x hs IsNobody) where
  -- such a node is taken over by `bind` or `escalate`, in a scope where a holding counts whose rule
  -- matches such a row and may have the node's name
  by_writing : (y : NodeView) → IsNobody y → (y ≡ EverythingIn None → ⊥) → (t : TakesOver p steps x y)
      → WritesRoles t.0 × ((h : HoldingView) × Contains hs h × MayTakeBy h.rule t.0 × MayAsk y h)
  unfolding HoldingsTake HoldingTakes
  by_writing y nobody other t =
      let a = (decide t.0 y t.1.among nobody).1 t.1.can in
      let h = a.1 in
      let rule = a.4 in
      let row = rule.1 in
      let w = rule.4.1 in
      let is_nobody = over_nobody row.over row.counts y w.namespace w.own nobody w.over in
      let way = writes_or_wide row.over row.counts row.step is_nobody (none_strange row (rule.0, rule.2, rule.3)) in
      let writing : WritesRoles row.step = elim way [
        | inl one ↦ one
        | inr wide ↦ absurd (other (whole y w.namespace w.own (subst (λ (c : Counts). IsOver over.Everything c y w.namespace w.own) wide.1 (subst (λ (o : Over). IsOver o row.counts y w.namespace w.own) wide.0 w.over))))
      ] in
      (subst WritesRoles rule.4.0 writing, (h, (a.0, a.2, a.3), matches_step h y t.0 nobody rule, record { counts = counts_there h y t.0 nobody rule; named = named_by y h.home h.rule row (rule.0, rule.2, rule.3) nobody w }))

  pub scoped_none : HasAll p steps x None → AreScoped p steps x []
  scoped_none all y nobody other t = absurd (t.1.told (by_writing y nobody other t).0 (untold p steps x y nobody other all))

  pub scoped_few : (few : List HoldingView) → AreOverOthers (by.Bind ∷ by.Escalate ∷ []) hs few → AreScoped p steps x few
  unfolding SomeMayTake
  scoped_few few are y nobody other t =
      let w = by_writing y nobody other t in
      let h = w.1.0 in
      let among : Contains (by.Bind ∷ by.Escalate ∷ []) t.0 = elim w.0 [
        | inl bind ↦ subst (λ (s : Step). Contains (by.Bind ∷ by.Escalate ∷ []) s) (sym bind) (0, omega arith, refl)
        | inr escalate ↦ subst (λ (s : Step). Contains (by.Bind ∷ by.Escalate ∷ []) s) (sym escalate) (1, omega arith, refl)
      ] in
      any_from (MayAsk y) few h ((are h).1 (w.1.1, any_from (MayTakeBy h.rule) (by.Bind ∷ by.Escalate ∷ []) t.0 among w.1.2)) w.1.3

  -- roles in a scope where these steps take over everything are left out
  pub included : (y : NodeView) → IsRole y → HoldingsHaveAll steps hs (scope_at y) → ¬ TakesOver p steps x y
  included y role all t = t.1.told (by_writing y (is_nobody y role) (isnt_all y role) t).0 (in_all p steps x y role (has_all p x hs steps y (about_node p steps x hs decide y (is_nobody y role)) (scope_at y) all))
