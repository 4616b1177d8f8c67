use Rattle.std.proofs.Common.{◌∙◌, [], Any, List, ap, arith, subst, sym}
use Rattle.rbac_terms.specs.Text.{Text}
use Rattle.rbac_terms.specs.declared.granting.ClusterRole.{ClusterRole}
use Rattle.rbac_terms.specs.declared.granting.Role.{Role}
use Rattle.rbac_terms.specs.declared.matching.Rule.{Rule}
use Rattle.rbac_model.specs.Policies.{Held}
use Rattle.rbac_paths.specs.BoundNames.{BindsNamed}
use Rattle.rbac_paths.specs.Rows.{AreOfStep}
use Rattle.rbac_paths.specs.SharedWords.{AddsWhere}
use Rattle.rbac_paths.specs.Steps.{StepRowView, table}
use Rattle.rbac_steps.specs.declared.steps.Step.TheVariants.{Bind}
use Rattle.rbac_paths.proofs.BoundNames.{AddsOfClusterRoles, AddsOfRoles, both_add}
use Rattle.rbac_paths.proofs.WordsAdded.{adds_each, adds_first, adds_more}
use Rattle.rbac_paths.proofs.bound_names.names_in_rules.Goals as goal

abbrev OfRules : List Rule → List Text → List Text → Type 0
OfRules rules old new = AddsWhere (λ name. Any (λ rule. BindsNamed rule name) rules) old new

pub add_names-requires : goal.add_names-requires
add_names-requires c = subst (λ (rows : List StepRowView). AreOfStep Bind table rows) (sym c.as_slice.ensures.value) c.in_ok-rows.ensures

pub loop-role-preserved : goal.loop-role-preserved
loop-role-preserved c =
    let old = c.loop-role.names.items in
    let new = c.add_names.new.names.items in
    adds_more (λ role name. Any (λ rule. BindsNamed rule name) role.rules) c.roles-role-items.result.now c.loop-role.role-index c.role-item.result [] old new
    c.loop-role-test.true c.role-item.is c.loop-role.invariant (subst (λ (rules : List Rule). OfRules rules old new) c.as_slice-in-loop-role.ensures c.in_ok-add_names.ensures)

pub loop-role-2-init : goal.loop-role-2-init
loop-role-2-init c =
    let items = c.roles-role-items.result.now in
    let all : AddsOfRoles items [] c.loop-role.names.items = adds_each (λ role name. Any (λ rule. BindsNamed rule name) role.rules) items c.loop-role.role-index [] c.loop-role.names.items
    (let end = c.loop-role-test.false in omega (arith, end)) c.loop-role.invariant in (
      c.loop-role.names.items,
      subst (λ (roles : List Role). AddsOfRoles roles [] c.loop-role.names.items) (c.roles-role-items.ensures.roles ∙ ap (λ (h : Held). h.roles) c.objects.ensures.held) all,
      adds_first (λ (role : ClusterRole) name. Any (λ rule. BindsNamed rule name) role.rules) c.loop-role.names.items,
    )

pub add_names-requires-in-loop-role-2 : goal.add_names-requires-in-loop-role-2
add_names-requires-in-loop-role-2 c = subst (λ (rows : List StepRowView). AreOfStep Bind table rows) (sym c.as_slice-in-loop-role-2.ensures.value) c.in_ok-rows.ensures

pub loop-role-2-preserved : goal.loop-role-2-preserved
loop-role-2-preserved c =
    let old = c.loop-role-2.names.items in
    let new = c.add_names-in-loop-role-2.new.names.items in
    let had = c.loop-role-2.invariant in (
      had.0,
      had.1,
      adds_more (λ role name. Any (λ rule. BindsNamed rule name) role.rules) c.cluster_roles-role-items.result.now c.loop-role-2.role-index c.role-item-in-loop-role-2.result had.0 old new
          c.loop-role-2-test.true c.role-item-in-loop-role-2.is had.2 (subst (λ (rules : List Rule). OfRules rules old new) c.as_slice-in-loop-role-2-2.ensures c.in_ok-add_names-2.ensures),
    )

pub returns-clause-names : goal.returns-clause-names
returns-clause-names c =
    let items = c.cluster_roles-role-items.result.now in
    let names = c.loop-role-2.names.items in
    let had = c.loop-role-2.invariant in
    let all : AddsOfClusterRoles items had.0 names = adds_each (λ role name. Any (λ rule. BindsNamed rule name) role.rules) items c.loop-role-2.role-index had.0 names
    (let end = c.loop-role-2-test.false in omega (arith, end)) had.2 in
    let cluster = subst (λ (roles : List ClusterRole). AddsOfClusterRoles roles had.0 names) (c.cluster_roles-role-items.ensures.cluster_roles ∙ ap (λ (h : Held). h.cluster_roles) c.objects-2.ensures.held) all in
    both_add c.args.policy.now.held names (had.0, had.1, cluster)
