use Rattle.std.proofs.Common.{◌≡◌, length, ap, ◌∙◌, sym}
use Rattle.std.proofs.lemmas.Option.{slice_get_read}
use Rattle.rbac_model.specs.Places.{role_places}
use Rattle.rbac_terms.specs.declared.granting.Role.{Role}
use Rattle.rbac_model.proofs.Listed.{length-role_places}
use Rattle.rbac_model.proofs.grants.put_role.Goals as goal

pub returns-clause-many : goal.returns-clause-many
returns-clause-many c =
    let read = rw c.roles.ensures.roles at (slice_get_read _ _ _ _ (ap length (sym c.roles.ensures.roles)) c.requires.role c.index-roles-role.is) in
    let same : length (role_places c.args.objects.now c.args.binding c.args.role) ≡ length c.as_slice-count.result.now =
    length-role_places c.args.objects.now c.args.binding c.args.role c.index-roles-role.result read ∙ ap (λ (r : Role). length r.rules) c.index-roles-role.is ∙ ap length (sym c.as_slice-count.ensures) in
    rw same c.put_rules.ensures.many

pub returns-clause-always : goal.returns-clause-always
returns-clause-always c =
    let read = rw c.roles.ensures.roles at (slice_get_read _ _ _ _ (ap length (sym c.roles.ensures.roles)) c.requires.role c.index-roles-role.is) in
    let same : length (role_places c.args.objects.now c.args.binding c.args.role) ≡ length c.as_slice-count.result.now =
    length-role_places c.args.objects.now c.args.binding c.args.role c.index-roles-role.result read ∙ ap (λ (r : Role). length r.rules) c.index-roles-role.is ∙ ap length (sym c.as_slice-count.ensures) in
    rw same c.put_rules.ensures.always
