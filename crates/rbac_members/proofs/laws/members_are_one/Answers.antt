use Rattle.rbac_members.proofs.OneMembers.{one_members}
use Rattle.rbac_members.proofs.laws.members_are_one.Goals as goal

pub returns : goal.returns
returns c = one_members
