-- The members are one list.
use Rattle.std.proofs.Common.{◌≡◌, Bool, List}
use Rattle.rbac_groups.specs.declared.membership.Membership.{Membership}
use Rattle.rbac_model.specs.Holders.{HolderView}
use Rattle.rbac_model.proofs.OneList.{one_list}
use Rattle.rbac_members.specs.Members.{AreMembers, member_name}

pub one_members : (ms : List Membership) (every : Bool) (xs ys others : List HolderView) → AreMembers ms every xs ys → AreMembers ms every xs others → ys ≡ others
one_members ms every xs ys others a b =
    one_list member_name ys others a.ordered b.ordered (λ y w. (b.exact y).1 ((a.exact y).0 w)) (λ y w. (a.exact y).1 ((b.exact y).0 w))
