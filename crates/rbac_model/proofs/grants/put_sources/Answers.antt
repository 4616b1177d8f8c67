use Rattle.std.proofs.Common.{◌<◌, length, ap, ◌∙◌, sym, arith, get_or, take, ◌+◌, length-append}
use Rattle.std.proofs.lemmas.Option.{slice_get_read}
use Rattle.std.proofs.lemmas.Result.{err_from_is_err_and}
use Rattle.rbac_model.specs.Places.{places_in, places_of}
use Rattle.rbac_terms.specs.declared.granting.ClusterRole.{ClusterRole}
use Rattle.rbac_model.specs.declared.places.RolePlace.TheVariants.{ClusterRoleAt}
use Rattle.rbac_model.proofs.Listed.{places_more, places_some, length-places, appended}
use Rattle.rbac_model.proofs.grants.put_sources.Goals as goal

pub loop-role-preserved : goal.loop-role-preserved
loop-role-preserved c =
    let in_range : c.loop-role.role-index < length c.args.sources.now = omega arith in
    let within = c.requires.sources c.loop-role.role-index 0 in_range in
    let read = rw c.cluster_roles-roles.ensures.cluster_roles at (slice_get_read _ _ _ _ (ap length (sym c.cluster_roles-roles.ensures.cluster_roles)) within c.index-roles-role.is) in
    let more = places_more c.args.objects.now c.args.binding c.args.sources.now c.loop-role.role-index c.index-roles-role.result in_range read in
    let count = ap (λ (r : ClusterRole). length r.rules) c.index-roles-role.is ∙ ap length (sym c.as_slice-count.ensures) in
    record {
      items = appended c.args.grants.now.items c.loop-role.grants.items c.put_rules.new.grants.items _ _ _ c.loop-role.invariant.items c.in_ok-put_rules.ensures.ok (rw count at more);
      few = c.in_ok-put_rules.ensures.few;
    }

pub returns-in_err-put_rules-clause-many : goal.returns-in_err-put_rules-clause-many
returns-in_err-put_rules-clause-many c =
    let in_range : c.loop-role.role-index < length c.args.sources.now = omega arith in
    let within = c.requires.sources c.loop-role.role-index 0 in_range in
    let read = rw c.cluster_roles-roles.ensures.cluster_roles at (slice_get_read _ _ _ _ (ap length (sym c.cluster_roles-roles.ensures.cluster_roles)) within c.index-roles-role.is) in
    let h = c.args.objects.now in
    let b = c.args.binding in
    let ps = c.args.sources.now in
    let i = c.loop-role.role-index in
    let last = places_of b (ClusterRoleAt (get_or ps i 0)) (length c.index-roles-role.result.rules) in
    let more = ap length (places_more h b ps i c.index-roles-role.result in_range read) ∙ length-append (places_in h b (take i ps)) last in
    let count = ap (λ (r : ClusterRole). length r.rules) c.index-roles-role.is ∙ ap length (sym c.as_slice-count.ensures) in
    let so_far = ap length c.loop-role.invariant.items ∙ length-append c.args.grants.now.items (places_in h b (take i ps)) in
    let p = err_from_is_err_and c.from_residual.result c.from_residual.ensures.1 in
    rw (p.1, p.2) (λ e. omega (arith, c.in_err-put_rules.ensures.many e, so_far, more, length-places b (ClusterRoleAt (get_or ps i 0)) (length c.index-roles-role.result.rules), count, places_some h b ps (i + 1)))
