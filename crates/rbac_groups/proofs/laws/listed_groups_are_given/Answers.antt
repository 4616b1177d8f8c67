use Rattle.rbac_groups.proofs.Listing.{listed_is_given}
use Rattle.rbac_groups.proofs.laws.listed_groups_are_given.Goals as goal

pub returns : goal.returns
returns c memberships user group = listed_is_given memberships user group
