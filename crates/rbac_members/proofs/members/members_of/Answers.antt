use Rattle.rbac_members.proofs.members.members_of.Goals as goal

pub returns : goal.returns
returns c =
    let ms = c.args.memberships.now in
    λ up. c.first_told.ensures ms up (c.in_ok-candidates.ensures ms (rw c.as_slice.ensures.value c.in_ok-listings.ensures) up)
