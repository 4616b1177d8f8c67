use Rattle.rbac_members.proofs.GroupPlaces.{of_group}
use Rattle.rbac_members.proofs.listings.listings_of_group.Goals as goal

pub returns : goal.returns
returns c =
    let range = c.range_of-from in
    of_group c.args.listings.now c.requires c.args.group.now range.result.0 range.result.1 range.ensures.ordered range.ensures.within range.ensures.between
