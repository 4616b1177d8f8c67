use Rattle.rbac_model.specs.Sources.{grant_of}
use Rattle.rbac_near.specs.Near.{request_of}
use Rattle.rbac_near.proofs.Gathering.{finds_more, finds_same}
use Rattle.rbac_near.proofs.members.members_of.Goals as goal
use Rattle.rbac_near.proofs.members.members_of.Goals.{in-Some+in_ok-add_groups, in_default}

pub loop-place-preserved : goal.loop-place-preserved
loop-place-preserved c =
    let p = c.args.policy.now in
    let q = request_of c.args.request in
    let k = c.loop-place.place in
    let found = c.loop-place.found in
    elim c.match-first_lacking.branch [
      | in-Some+in_ok-add_groups w ↦ rw w.found-is (finds_more p q c.bindings-places.ensures.policy k w.in-Some.number (grant_of w.grant.result) w.grant.ensures.grant (rw w.in-Some.is at c.first_lacking.ensures) found w.add_groups.new.found c.loop-place.invariant w.in_ok-add_groups.ensures)
      | in_default w ↦ rw w.found-is (finds_same p q k found (rw w.in_default.is at c.first_lacking.ensures) c.loop-place.invariant)
    ]
