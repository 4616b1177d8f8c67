use Rattle.std.proofs.Common.{◌<◌, [], ◌∷◌, length, refl}
use Rattle.std.proofs.lemmas.Option.{slice_get_read}
use Rattle.rbac_model.proofs.UpTo.{none_is, isnt_none}
use Rattle.rbac_model.proofs.Gathered.{own_source, at_place, gathered_at}
use Rattle.rbac_model.proofs.aggregation.sources_at.Goals as goal

pub returns : goal.returns
returns c =
    let in_range : c.args.at < length c.cluster_roles-roles.result.now = rw c.cluster_roles-roles.ensures.cluster_roles c.requires.at in
    let read = rw c.cluster_roles-roles.ensures.cluster_roles at (slice_get_read _ _ _ _ refl in_range c.index-roles-at.is) in
    gathered_at c.args.objects.now c.cluster_roles-roles.ensures.held c.args.reached.now c.requires.reached c.args.at c.index-roles-at.result c.index-reached-at.result c.plain_in.result
    read (isnt_none c.index-roles-at.result.aggregation _ (rw (← c.index-roles-at.is) at c.is_none.ensures) c.if-is_none.false) c.index-reached-at.is
    (rw c.cluster_roles-roles.ensures.cluster_roles at c.plain_in.ensures)

pub returns-then-is_none : goal.returns-then-is_none
returns-then-is_none c =
    let in_range : c.args.at < length c.cluster_roles-roles.result.now = rw c.cluster_roles-roles.ensures.cluster_roles c.requires.at in
    let read = rw c.cluster_roles-roles.ensures.cluster_roles at (slice_get_read _ _ _ _ refl in_range c.index-roles-at.is) in
    rw (c.in_ok-push.ensures.items, c.new-own.ensures.items) (at_place c.args.objects.now c.args.at c.index-roles-at.result (c.args.at ∷ []) read
    (own_source c.args.objects.now c.args.at c.index-roles-at.result read (none_is c.index-roles-at.result.aggregation _ (rw (← c.index-roles-at.is) at c.is_none.ensures) c.if-is_none.true)))
