use Rattle.std.proofs.Common.{◌≡◌, arith, take}
use Rattle.std.proofs.lemmas.List.{take_all}
use Rattle.rbac_members.proofs.listings.add_listings.Goals as goal

pub returns : goal.returns
returns c =
    let users = c.as_slice-users.result.now in
    let all : take c.loop-user.user-index users ≡ users = take_all c.loop-user.user-index users (omega (arith, c.loop-user-test.false)) in
    rw (all, c.as_slice-users.ensures) at c.loop-user.invariant
