use Rattle.std.proofs.Common.{◌≡◌, ◌∙◌, ◌++◌, ◌↔◌, Any, Contains, List, ap, subst, sym}
use Rattle.std.proofs.lemmas.Bool.{false≢true}
use Rattle.std.proofs.lemmas.List.Elements.{same_from_all_zip}
use Rattle.rbac_terms.specs.Text.{Text}
use Rattle.rbac_terms.specs.declared.granting.Role.{Role}
use Rattle.rbac_model.specs.Policies.{Held}
use Rattle.rbac_paths.specs.BoundNames.{BindsNamed, SomeRule}
use Rattle.rbac_paths.specs.SharedWords.{AddsWhere}
use Rattle.rbac_paths.proofs.BoundNames.{with_roles, without_roles}
use Rattle.rbac_paths.proofs.bound_names.all_bound.Goals as goal
use Rattle.rbac_paths.proofs.bound_names.all_bound.Goals.{then-branch+in_ok-add_role_names, else-branch}

pub returns : goal.returns
returns c =
    let h = c.args.policy.now.held in
    let listed = c.args.listed.now in
    let names = c.extend_with_clones.new.self.items in
    let added = c.in_ok-extend_with_clones.ensures.items in
    let same : names ≡ listed = added.1 ∙ ap (λ (ws : List Text). ws ++ added.0) c.new-names.ensures.items ∙ same_from_all_zip _ listed added.0 added.2 (λ x y same. same) in
    let in_rules = subst (λ (ws : List Text). (name : Text) → Contains ws name ↔ SomeRule (λ rule. BindsNamed rule name) h) (sym same) c.requires in
    elim c.if-branch.branch [
      | then-branch+in_ok-add_role_names w ↦
          (let new = w.add_role_names.new.names.items in
          let roles = w.roles.ensures.roles ∙ ap (λ (held : Held). held.roles) w.objects.ensures.held in
          let adds = subst (λ (rs : List Role). AddsWhere (λ name. Any (λ role. role.name ≡ name) rs) names new) roles w.in_ok-add_role_names.ensures in
          rw w.names-is (with_roles c.args.steps.now h names in_rules (c.in_ok-some_binds_each_role.ensures.0 w.if-branch.true) new adds))
      | else-branch w ↦ rw w.names-is
          (without_roles c.args.steps.now h names in_rules (λ some. false≢true (sym w.if-branch.false ∙ c.in_ok-some_binds_each_role.ensures.1 some)))
    ]
