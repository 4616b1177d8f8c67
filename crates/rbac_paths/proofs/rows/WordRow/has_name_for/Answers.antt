use Rattle.std.proofs.Common.{◌↔◌, ◌∙◌, IsTrue, ap, refl, subst, sym}
use Rattle.rbac_paths.specs.Asked.{HasRowNameFor}
use Rattle.rbac_paths.specs.Steps.{StepRowView}
use Rattle.rbac_paths.specs.declared.table.Names.{Names}
use Rattle.rbac_paths.proofs.Allowing.{any_name_for, no_name_for, own_name_for}
use Rattle.rbac_paths.proofs.rows.WordRow.has_name_for.Goals as goal

pub returns-in-Any : goal.returns-in-Any
returns-in-Any c =
    let is = sym c.in-Any.is ∙ ap (λ (r : StepRowView). r.names) c.self.view_is in
    (λ t. subst (λ (n : Names). HasRowNameFor n c.args.own.now c.args.rule.now) is (any_name_for c.args.own.now c.args.rule.now), λ h. refl)

pub returns-in-Own : goal.returns-in-Own
returns-in-Own c =
    let is = sym c.in-Own.is ∙ ap (λ (r : StepRowView). r.names) c.self.view_is in
    let own = own_name_for c.args.own.now c.args.rule.now in
    subst (λ (n : Names). IsTrue c.has_name.result ↔ HasRowNameFor n c.args.own.now c.args.rule.now) is (λ t. own.1 (c.has_name.ensures.0 t), λ h. c.has_name.ensures.1 (own.0 h))

pub returns-in-None : goal.returns-in-None
returns-in-None c =
    let is = sym c.in-None.is ∙ ap (λ (r : StepRowView). r.names) c.self.view_is in
    let none = no_name_for c.args.own.now c.args.rule.now in
    subst (λ (n : Names). IsTrue c.has_name-in-None.result ↔ HasRowNameFor n c.args.own.now c.args.rule.now) is (λ t. none.1 (c.has_name-in-None.ensures.0 t), λ h. c.has_name-in-None.ensures.1 (none.0 h))
