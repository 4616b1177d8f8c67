-- Each role that is taken over has a bound name. A node that may bind each cluster role of a scope,
-- or write any rule into its Roles, takes over everything there, so its roles are left out.
use Rattle.std.proofs.Common.{◌≡◌, ◌≢◌, ◌∙◌, ◌⊎◌, ◌+◌, Bool, false, true, cond, filter, ℕ, zero, suc, List, [], ◌∷◌, Option, Some, None, Any, Contains, ap, arith, inl, inr, refl, slice_get, subst, sym}
use Rattle.std.specs.Prelude.{codes}
use Rattle.std.specs.List.{flat_map}
use Rattle.std.proofs.lemmas.List.Elements.{Contains-append_cases}
use Rattle.std.proofs.lemmas.Option.{get_or_from_slice_get, slice_get-get_or, slice_get_within}
use Rattle.rbac_terms.specs.Text.{Text}
use Rattle.rbac_terms.specs.Matching.{VerbOk}
use Rattle.rbac_terms.specs.Targets.{Resource}
use Rattle.rbac_terms.specs.declared.granting.Binding.{Binding}
use Rattle.rbac_terms.specs.declared.granting.RoleRef.{RoleRef}
use Rattle.rbac_terms.specs.declared.granting.RoleRef.TheVariants.{Role as ToRole, ClusterRole as ToClusterRole}
use Rattle.rbac_terms.specs.declared.granting.ClusterRole.{ClusterRole}
use Rattle.rbac_terms.specs.declared.granting.Role.{Role}
use Rattle.rbac_terms.specs.declared.matching.Rule.{Rule}
use Rattle.rbac_model.proofs.GrantNumbers.{binding_of}
use Rattle.rbac_model.proofs.OwnWords.{any_from}
use Rattle.rbac_model.proofs.Stairs.{reached_held}
use Rattle.rbac_model.specs.Policies.{AreRulesFor, AreRulesOf, GrantView, Held, IsPolicy, IsRefTo, Live, PolicyView, Source, InRole, InClusterRole, SourcedRule, written_from}
use Rattle.rbac_paths.specs.BoundNames.{BindsAny, BindsEachRole, BindsNamed, EscalatesRoles, IsBoundName, SomeRule, TakesAllToo}
use Rattle.rbac_paths.specs.Having.{HasRoleRule, HoldingView, IsHolding}
use Rattle.rbac_paths.specs.Joints.{IsNobody}
use Rattle.rbac_paths.specs.Nodes.{NodeView, Somebody, ClusterRoleIn, OwnRole, EverythingIn}
use Rattle.rbac_paths.specs.Rows.{HasRowResource, MatchesRow}
use Rattle.rbac_paths.specs.Steps.{StepRowView, asked_in, rbac, row, table}
use Rattle.rbac_paths.specs.Taking.{IsOver, RowTakes, RuleTakes, scope_namespace}
use Rattle.rbac_paths.specs.TakingOver.{MayGoOn, HasAll, IsUntold, TakesByStep, WritesRoles}
use Rattle.rbac_paths.proofs.AllowedBy.{allow_by}
use Rattle.rbac_paths.proofs.ByRules.{takes_over}
use Rattle.rbac_paths.proofs.Mapped.{is_element, one_element}
use Rattle.rbac_steps.specs.declared.steps.Step.{Step}
use Rattle.rbac_paths.specs.declared.table.Counts.{Counts}
use Rattle.rbac_paths.specs.declared.table.Counts.TheVariants as counted
use Rattle.rbac_paths.specs.declared.table.Names.TheVariants as names
use Rattle.rbac_paths.specs.declared.table.Over.{Over}
use Rattle.rbac_paths.specs.declared.table.Over.TheVariants as over
use Rattle.rbac_steps.specs.declared.steps.Step.TheVariants.{Bind, Escalate}

-- the rule is written in some role that is held
abbrev pub IsWritten : Held → Rule → Type 0
IsWritten h rule = Any (λ role. Contains role.rules rule) h.roles ⊎ Any (λ role. Contains role.rules rule) h.cluster_roles

of_written : (source : Source) (i : ℕ) (rules : List Rule) (r : SourcedRule) → Contains (written_from source i rules) r → Contains rules r.rule
of_written source i [] r (k, low, is) = absurd (omega (arith, low))
of_written source i (x ∷ xs) r (zero, low, is) = (0, omega arith, ap (λ (v : SourcedRule). v.rule) is)
of_written source i (x ∷ xs) r (suc k, low, is) = let rest = of_written source (i + 1) xs r (k, omega (arith, low), is) in (suc rest.0, omega (arith, rest.1), rest.2)

module _ (h : Held) where
  abbrev HasSource : Source → Type 0
  HasSource (InRole role) = Contains h.roles role
  HasSource (InClusterRole role) = Contains h.cluster_roles role

  gathered_written : (ss : List ClusterRole) (r : SourcedRule) → ((s : ClusterRole) → Contains ss s → Contains h.cluster_roles s) → Contains (flat_map (λ s. written_from (InClusterRole s) 0 s.rules) ss) r → Any (λ role. Contains role.rules r.rule) h.cluster_roles
  gathered_written [] r held c = absurd (let low = c.1 in omega (arith, low))
  gathered_written (s ∷ ss) r held c = elim (Contains-append_cases (written_from (InClusterRole s) 0 s.rules) (flat_map (λ s. written_from (InClusterRole s) 0 s.rules) ss) r c) [
    | inl first ↦ any_from (λ role. Contains role.rules r.rule) h.cluster_roles s (held s (0, omega arith, refl)) (of_written (InClusterRole s) 0 s.rules r first)
    | inr rest ↦ gathered_written ss r (λ t there. held t (suc there.0, omega (arith, there.1), there.2)) rest
  ]

  role_written : (role : Source) (rules : List SourcedRule) (r : SourcedRule) → HasSource role → AreRulesOf h role rules → Contains rules r → IsWritten h r.rule
  role_written (InRole role) rules r held are c = inl (any_from (λ x. Contains x.rules r.rule) h.roles role held (of_written (InRole role) 0 role.rules r (subst (λ (rs : List SourcedRule). Contains rs r) are c)))
  role_written (InClusterRole role) rules r held (inl (plain, are)) c = inr (any_from (λ x. Contains x.rules r.rule) h.cluster_roles role held (of_written (InClusterRole role) 0 role.rules r (subst (λ (rs : List SourcedRule). Contains rs r) are c)))
  role_written (InClusterRole role) rules r held (inr (aggregated, (ss, are, is))) c = inr (gathered_written ss r (λ s there. reached_held h role s ((are.exact s).0 there).1) (subst (λ (rs : List SourcedRule). Contains rs r) is c))

  has_rule : (role : Source) (rule : Rule) → HasSource role → HasRoleRule h role rule → IsWritten h rule
  has_rule role rule held (rules, are, a) = subst (IsWritten h) a.4 (role_written role rules a.1 held are (a.0, a.2, a.3))

  referred : (namespace : Option Text) (to : RoleRef) (role : Source) → IsRefTo h namespace to role → HasSource role
  referred (Some namespace) (ToRole name) (InRole role) is = is.0
  referred (Some namespace) (ToClusterRole name) (InClusterRole role) is = is.0
  referred None (ToClusterRole name) (InClusterRole role) is = is.0
  referred (Some namespace) (ToRole name) (InClusterRole role) is = elim is [ ]
  referred (Some namespace) (ToClusterRole name) (InRole role) is = elim is [ ]
  referred None (ToRole name) role is = elim is [ ]
  referred None (ToClusterRole name) (InRole role) is = elim is [ ]

  bound_written : (b : Binding) (rules : List SourcedRule) (r : SourcedRule) → AreRulesFor h b rules → Contains rules r → IsWritten h r.rule
  bound_written b rules r (inl (role, is, are)) c = role_written role rules r (referred b.namespace b.role role is) are c
  bound_written b rules r (inr (none, is)) c = absurd (let low = (subst (λ (rs : List SourcedRule). Contains rs r) is c).1 in omega (arith, low))

-- the roles of a node are held
abbrev pub HasOwnRole : Held → NodeView → Type 0
HasOwnRole h (Somebody who) = Unit {0}
HasOwnRole h (ClusterRoleIn role scope) = Contains h.cluster_roles role
HasOwnRole h (OwnRole role) = Contains h.roles role
HasOwnRole h (EverythingIn scope) = Unit {0}

module _ (p : PolicyView) (ok : IsPolicy p) where
  holding_written : (x : NodeView) (h : HoldingView) → HasOwnRole p.held x → ((scope : Option Text) → x ≢ EverythingIn scope) → IsHolding p x h → IsWritten p.held h.rule
  holding_written (Somebody who) h held other (n, g, low, is, given) =
      let at : slice_get p.grants n ≡ Some g = slice_get-get_or p.grants n g low ∙ ap (λ (v : GrantView). Some v) is in
      let of = binding_of p.held p.held.bindings p.grants n g ok.1 at in
      let rules = of.2.0 in
      let place = of.2.2 in
      subst (IsWritten p.held) given.2 (bound_written p.held g.binding rules g.rule of.2.1 (place.0, slice_get_within rules place.0 g.rule place.1, get_or_from_slice_get rules place.0 g.rule g.rule place.1))
  holding_written (ClusterRoleIn role scope) h held other (home, has) = has_rule p.held (InClusterRole role) h.rule held has
  holding_written (OwnRole role) h held other (home, has) = has_rule p.held (InRole role) h.rule held has
  holding_written (EverythingIn scope) h held other is = absurd (other scope refl)

-- ---- rows that bind roles by name

abbrev pub bind_by_name : Text → Over → StepRowView
bind_by_name resource over = row Bind names.Own counted.InNamespaces (codes "bind" ∷ []) rbac (resource ∷ []) over

abbrev bind_all : StepRowView
bind_all = row Bind names.None counted.InNamespaces (codes "bind" ∷ []) rbac (codes "clusterroles" ∷ []) over.Everything

abbrev escalate_roles : StepRowView
escalate_roles = row Escalate names.Any counted.InNamespaces (codes "escalate" ∷ []) rbac (codes "roles" ∷ []) over.EverythingInNamespace

pub over_cluster_role : (o : Over) (counts : Counts) (role : ClusterRole) (scope : Option Text) (namespace own : Text) → IsOver o counts (ClusterRoleIn role scope) namespace own → o ≡ over.ClusterRoles
over_cluster_role over.Users counts role scope namespace own is = elim is [ ]
over_cluster_role over.Groups counts role scope namespace own is = elim is [ ]
over_cluster_role over.Bootstrappers counts role scope namespace own is = elim is [ ]
over_cluster_role over.Accounts counts role scope namespace own is = elim is [ ]
over_cluster_role over.Everything counts role scope namespace own is = elim is [ ]
over_cluster_role over.EverythingInNamespace counts role scope namespace own is = elim is [ ]
over_cluster_role over.Nothing counts role scope namespace own is = elim is [ ]
over_cluster_role over.ClusterRoles counts role scope namespace own is = refl
over_cluster_role over.Roles counts role scope namespace own is = elim is [ ]

pub over_role : (o : Over) (counts : Counts) (role : Role) (namespace own : Text) → IsOver o counts (OwnRole role) namespace own → o ≡ over.Roles
over_role over.Users counts role namespace own is = elim is [ ]
over_role over.Groups counts role namespace own is = elim is [ ]
over_role over.Bootstrappers counts role namespace own is = elim is [ ]
over_role over.Accounts counts role namespace own is = elim is [ ]
over_role over.Everything counts role namespace own is = elim is [ ]
over_role over.EverythingInNamespace counts role namespace own is = elim is [ ]
over_role over.Nothing counts role namespace own is = elim is [ ]
over_role over.ClusterRoles counts role namespace own is = elim is [ ]
over_role over.Roles counts role namespace own is = refl

-- exactly one row takes over cluster roles, and exactly one takes over Roles
in_either : (b : Bool) (x : StepRowView) (rows : List StepRowView) (r : StepRowView) → Contains rows r → Contains (cond b (x ∷ rows) rows) r
in_either true x rows r c = (suc c.0, omega (arith, c.1), c.2)
in_either false x rows r c = c

pub is_kept : (is : StepRowView → Bool) (rows : List StepRowView) (r : StepRowView) → Contains rows r → is r ≡ true → Contains (filter is rows) r
is_kept is [] r c passes = absurd (let low = c.1 in omega (arith, low))
is_kept is (x ∷ xs) r (zero, low, e) passes =
    let here : Contains (x ∷ filter is xs) r = (0, omega arith, e) in
    subst (λ (b : Bool). Contains (cond b (x ∷ filter is xs) (filter is xs)) r) (sym (ap is e ∙ passes)) here
is_kept is (x ∷ xs) r (suc k, low, e) passes = in_either (is x) x (filter is xs) r (is_kept is xs r (k, omega (arith, low), e) passes)

abbrev over_cluster_roles : Over → Bool
over_cluster_roles over.ClusterRoles = true
over_cluster_roles _ = false

abbrev over_roles : Over → Bool
over_roles over.Roles = true
over_roles _ = false

pub one_of_cluster_roles : (r : StepRowView) → Contains table r → r.over ≡ over.ClusterRoles → r ≡ bind_by_name (codes "clusterroles") over.ClusterRoles
one_of_cluster_roles r c is =
    let kept : Contains (bind_by_name (codes "clusterroles") over.ClusterRoles ∷ []) r = is_kept (λ x. over_cluster_roles x.over) table r c (ap over_cluster_roles is) in
    sym (one_element (bind_by_name (codes "clusterroles") over.ClusterRoles) r kept)

pub one_of_roles : (r : StepRowView) → Contains table r → r.over ≡ over.Roles → r ≡ bind_by_name (codes "roles") over.Roles
one_of_roles r c is =
    let kept : Contains (bind_by_name (codes "roles") over.Roles ∷ []) r = is_kept (λ x. over_roles x.over) table r c (ap over_roles is) in
    sym (one_element (bind_by_name (codes "roles") over.Roles) r kept)

-- where a binding is live for a resource doesn't depend on the resource text and the object name
live_as : (home : Option Text) (asked group text name there other : Text) → Live home asked (Resource group text name) → Live home asked (Resource group there other)
live_as None asked group text name there other live = live
live_as (Some own) asked group text name there other live = live

-- a rule that lets one bind each cluster role takes over everything in the scope
module _ (home : Option Text) (rule : Rule) (y : NodeView) (scope : Option Text) (resource : Text) (o : Over) (w : RowTakes (bind_by_name resource o) home rule y) (there : w.namespace ≡ scope_namespace scope) where
  takes_all : BindsAny (codes "clusterroles") rule → RuleTakes Bind home rule (EverythingIn scope)
  takes_all binds = any_from (λ row. (row.step ≡ Bind) × RowTakes row home rule (EverythingIn scope)) table bind_all (15, omega arith, refl) (
    refl,
    record {
      namespace = w.namespace;
      own = [];
      verb = codes "bind";
      text = codes "clusterroles";
      name = [];
      over = (there, refl, tt);
      of_verbs = is_element (codes "bind") (codes "bind") refl;
      of_resources = is_element (codes "clusterroles") (codes "clusterroles") refl;
      named = refl;
      live = live_as home w.namespace rbac w.text w.name (codes "clusterroles") [] w.live;
      allows = binds;
    },
  )

  -- the rule lets one bind each role of the kind, if it has no names
  binds_any : rule.resource_names ≡ [] → BindsAny resource rule
  binds_any none = (
    subst (λ (v : Text). VerbOk rule v) (sym (one_element (codes "bind") w.verb w.of_verbs)) w.allows.0,
    (
      w.allows.1.0,
      subst (λ (t : Text). HasRowResource rule t) (sym (one_element resource w.text w.of_resources)) w.allows.1.1,
      inl none,
    ),
  )

  -- the rule has the role's name
  by_name : Contains table (bind_by_name resource o) → Contains rule.resource_names w.name → BindsNamed rule w.own
  by_name at has = (
    any_from (λ row. (row.step ≡ Bind) × MatchesRow row rule) table (bind_by_name resource o) at (
      refl,
      (
        any_from (VerbOk rule) (codes "bind" ∷ []) w.verb w.of_verbs w.allows.0,
        w.allows.1.0,
        any_from (HasRowResource rule) (resource ∷ []) w.text w.of_resources w.allows.1.1,
      ),
    ),
    subst (λ (t : Text). Contains rule.resource_names t) w.named has,
  )

-- a rule that binds a cluster role has its name, or takes over everything in the scope
module _ (home : Option Text) (rule : Rule) (y : NodeView) (scope : Option Text) (at : Contains table (bind_by_name (codes "clusterroles") over.ClusterRoles)) where
  named_or_all : (w : RowTakes (bind_by_name (codes "clusterroles") over.ClusterRoles) home rule y) → w.namespace ≡ scope_namespace scope → BindsNamed rule w.own ⊎ RuleTakes Bind home rule (EverythingIn scope)
  named_or_all w there = elim w.allows.1.2 [
    | inl none ↦ inr (takes_all home rule y scope (codes "clusterroles") over.ClusterRoles w there (binds_any home rule y scope (codes "clusterroles") over.ClusterRoles w there none))
    | inr has ↦ inl (by_name home rule y scope (codes "clusterroles") over.ClusterRoles w there at has)
  ]

-- a rule that binds a Role and lets one write any rule into Roles takes over everything in the
-- Role's namespace
escalates_all : (home : Option Text) (rule : Rule) (y : NodeView) (namespace : Text) (resource : Text) (o : Over) (w : RowTakes (bind_by_name resource o) home rule y) → w.namespace ≡ namespace → EscalatesRoles rule
    → RuleTakes Escalate home rule (EverythingIn (Some namespace))
escalates_all home rule y namespace resource o w there escalates = any_from (λ row. (row.step ≡ Escalate) × RowTakes row home rule (EverythingIn (Some namespace))) table escalate_roles (19, omega arith, refl) (
  refl,
  record {
    namespace = w.namespace;
    own = [];
    verb = codes "escalate";
    text = codes "roles";
    name = [];
    over = (there, refl);
    of_verbs = is_element (codes "escalate") (codes "escalate") refl;
    of_resources = is_element (codes "roles") (codes "roles") refl;
    named = tt;
    live = live_as home w.namespace rbac w.text w.name (codes "roles") [] w.live;
    allows = escalates;
  },
)

-- everything in a scope leads to no role
no_everything : (x y : NodeView) → IsNobody y → MayGoOn x y → (scope : Option Text) → x ≢ EverythingIn scope
no_everything (Somebody who) y is on scope e = cc
no_everything (ClusterRoleIn role home) y is on scope e = cc
no_everything (OwnRole role) y is on scope e = cc
no_everything (EverythingIn None) y is on scope e = elim on [ ]
no_everything (EverythingIn (Some namespace)) (Somebody who) is on scope e = elim is [ ]
no_everything (EverythingIn (Some namespace)) (ClusterRoleIn role home) is on scope e = elim on [ ]
no_everything (EverythingIn (Some namespace)) (OwnRole role) is on scope e = elim on [ ]
no_everything (EverythingIn (Some namespace)) (EverythingIn home) is on scope e = elim on [ ]

-- a written rule is some rule
some_rule : (h : Held) (Is : Rule → Type 0) (rule : Rule) → Is rule → IsWritten h rule → SomeRule Is h
some_rule h Is rule is (inl (k, role, low, at, there)) = inl (k, role, low, at, any_from Is role.rules rule there is)
some_rule h Is rule is (inr (k, role, low, at, there)) = inr (k, role, low, at, any_from Is role.rules rule there is)

module _ (p : PolicyView) (ok : IsPolicy p) (steps : List Step) (x : NodeView) (held : HasOwnRole p.held x) where
  module _ (h : HoldingView) (has : IsHolding p x h) where
    all_taken : (s : Step) (scope : Option Text) → WritesRoles s → Contains steps s → RuleTakes s h.home h.rule (EverythingIn scope) → HasAll p steps x scope
    all_taken s scope writes among takes = (s, writes, among, takes_over p x s (EverythingIn scope) h.home h.rule (λ namespace verb t live allows. (allow_by p ok x namespace verb t).1 (h, has, live, allows)) takes)

  -- the rule by which a node is taken over
  module _ (step : Step) (y : NodeView) (t : TakesByStep p steps x step y) where
    by : (h : HoldingView) × IsHolding p x h × RowTakes t.can.row h.home h.rule y
    by =
        let c = t.can in
        let w = (allow_by p ok x (asked_in c.row.counts c.namespace) c.verb (Resource c.row.group c.text c.name)).0 c.allowed in (
          w.0,
          w.1,
          record {
            namespace = c.namespace;
            own = c.own;
            verb = c.verb;
            text = c.text;
            name = c.name;
            over = c.over;
            of_verbs = c.of_verbs;
            of_resources = c.of_resources;
            named = c.named;
            live = w.2;
            allows = w.3;
          },
        )

    module _ (resource : Text) (o : Over) (same : t.can.row ≡ bind_by_name resource o) where
      is_bind : step ≡ Bind
      is_bind = sym t.can.of_step ∙ ap (λ (r : StepRowView). r.step) same

      bind_among : Contains steps Bind
      bind_among = subst (λ (s : Step). Contains steps s) is_bind t.among

      in_table : Contains table (bind_by_name resource o)
      in_table = subst (λ (r : StepRowView). Contains table r) same t.can.of_table

      takes : RowTakes (bind_by_name resource o) by.0.home by.0.rule y
      takes = subst (λ (r : StepRowView). RowTakes r by.0.home by.0.rule y) same by.2

      bound : (Is : Rule → Type 0) → IsNobody y → Is by.0.rule → SomeRule Is p.held
      bound Is nobody is = some_rule p.held Is by.0.rule is (holding_written p ok x by.0 held (no_everything x y nobody t.goes_on) by.1)

      -- the rule doesn't take over everything, beside which the node would be left out
      not_all : (s : Step) (scope : Option Text) → (HasAll p steps x scope → IsUntold p steps x y) → WritesRoles s → Contains steps s → RuleTakes s by.0.home by.0.rule (EverythingIn scope) → ⊥
      not_all s scope hides writes among all = t.told (inl is_bind) (hides (all_taken by.0 by.1 s scope writes among all))

      none_too : (namespace : Text) → takes.namespace ≡ namespace → (HasAll p steps x (Some namespace) → IsUntold p steps x y) → TakesAllToo steps by.0.rule → ⊥
      none_too namespace there hides (inl all) = not_all Bind (Some namespace) hides (inl refl) bind_among (takes_all by.0.home by.0.rule y (Some namespace) resource o takes there all)
      none_too namespace there hides (inr both) = not_all Escalate (Some namespace) hides (inr refl) both.0 (escalates_all by.0.home by.0.rule y namespace resource o takes there both.1)

  hides_cluster_role : (role : ClusterRole) (scope : Option Text) → HasAll p steps x scope → IsUntold p steps x (ClusterRoleIn role scope)
  hides_cluster_role role None all = all
  hides_cluster_role role (Some namespace) all = inr (inl all)

  pub cluster_role_bound : (step : Step) (role : ClusterRole) (scope : Option Text) → TakesByStep p steps x step (ClusterRoleIn role scope) → SomeRule (λ rule. BindsNamed rule role.name) p.held
  cluster_role_bound step role scope t =
      let y = ClusterRoleIn role scope in
      let c = t.can in
      let same = one_of_cluster_roles c.row c.of_table (over_cluster_role c.row.over c.row.counts role scope c.namespace c.own c.over) in
      let w = takes step y t (codes "clusterroles") over.ClusterRoles same in
      let h = (by step y t).0 in
      let at = in_table step y t (codes "clusterroles") over.ClusterRoles same in
      let named : BindsNamed h.rule role.name ⊎ RuleTakes Bind h.home h.rule (EverythingIn scope) = subst (λ (n : Text). BindsNamed h.rule n ⊎ RuleTakes Bind h.home h.rule (EverythingIn scope)) w.over.1 (named_or_all h.home h.rule y scope at w w.over.0) in
      elim named [
        | inl own ↦ bound step y t (codes "clusterroles") over.ClusterRoles same (λ rule. BindsNamed rule role.name) tt own
        | inr all ↦ absurd (not_all step y t (codes "clusterroles") over.ClusterRoles same Bind scope (hides_cluster_role role scope) (inl refl) (bind_among step y t (codes "clusterroles") over.ClusterRoles same) all)
      ]

  pub role_bound : (step : Step) (role : Role) → Contains p.held.roles role → TakesByStep p steps x step (OwnRole role) → IsBoundName steps p.held role.name
  role_bound step role there t =
      let y = OwnRole role in
      let c = t.can in
      let same = one_of_roles c.row c.of_table (over_role c.row.over c.row.counts role c.namespace c.own c.over) in
      let w = takes step y t (codes "roles") over.Roles same in
      let h = (by step y t).0 in
      let at = in_table step y t (codes "roles") over.Roles same in
      let scope : Option Text = Some role.namespace in
      elim w.allows.1.2 [
        | inl none ↦ inr (
          bound step y t (codes "roles") over.Roles same (BindsEachRole steps) tt
              (binds_any h.home h.rule y scope (codes "roles") over.Roles w w.over.0 none, none_too step y t (codes "roles") over.Roles same role.namespace w.over.0 (λ all. inr all)),
          any_from (λ r. r.name ≡ role.name) p.held.roles role there refl,
        )
        | inr has ↦ inl (bound step y t (codes "roles") over.Roles same (λ rule. BindsNamed rule role.name) tt
            (subst (λ (n : Text). BindsNamed h.rule n) w.over.1 (by_name h.home h.rule y scope (codes "roles") over.Roles w w.over.0 at has)))
      ]
