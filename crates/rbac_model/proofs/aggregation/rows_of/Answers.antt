use Rattle.std.proofs.Common.{length, refl}
use Rattle.std.proofs.lemmas.List.{take_all}
use Rattle.std.proofs.lemmas.Option.{slice_get_read}
use Rattle.rbac_model.specs.Places.{IsRowOf}
use Rattle.rbac_model.proofs.Stairs.{zip_next}
use Rattle.rbac_model.proofs.aggregation.rows_of.Goals as goal

pub steps_from-requires-clause-at : goal.steps_from-requires-clause-at
steps_from-requires-clause-at c =
    let roles = c.cluster_roles-roles.result.now in
    rw c.cluster_roles-roles.ensures.cluster_roles at (slice_get_read roles (length roles) c.loop-at.at c.index-roles-at.result refl c.loop-at-test.true c.index-roles-at.is)

pub loop-at-preserved : goal.loop-at-preserved
loop-at-preserved c =
    rw c.in_ok-push.ensures.items
    (zip_next (IsRowOf c.args.objects.now) c.args.objects.now.cluster_roles c.cluster_roles-roles.result.now c.loop-at.rows.items c.loop-at.at c.index-roles-at.result _
    c.cluster_roles-roles.ensures.cluster_roles c.loop-at-test.true c.index-roles-at.is c.loop-at.invariant c.in_ok-steps_from.ensures)

pub returns : goal.returns
returns c =
    let past = rw c.cluster_roles-roles.ensures.cluster_roles at c.loop-at-test.false in
    rw (take_all c.loop-at.at c.args.objects.now.cluster_roles past) at c.loop-at.invariant
