use Rattle.std.proofs.Common.{◌∙◌, ap, inl, inr, refl, subst, sym}
use Rattle.rbac_paths.specs.Rows.{HasRowName}
use Rattle.rbac_paths.specs.Steps.{StepRowView}
use Rattle.rbac_paths.specs.declared.table.Names.{Names}
use Rattle.rbac_paths.proofs.Allowing.{any_has_name, own_has_name}
use Rattle.rbac_paths.proofs.rows.WordRow.has_name_of.Goals as goal

pub returns-in-Own : goal.returns-in-Own
returns-in-Own c =
    let is = ap (λ (r : StepRowView). r.names) c.self.view_is in
    let some : HasRowName c.args.self.now.names c.args.rule.now = elim c.in-Own.is [
      | inl own ↦ subst (λ (n : Names). HasRowName n c.args.rule.now) (sym own ∙ is) (own_has_name c.args.rule.now)
      | inr any ↦ subst (λ (n : Names). HasRowName n c.args.rule.now) (sym any ∙ is) (any_has_name c.args.rule.now)
    ] in
    (λ t. some, λ h. refl)
