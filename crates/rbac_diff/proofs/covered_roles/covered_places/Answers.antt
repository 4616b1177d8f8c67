use Rattle.rbac_diff.proofs.PairedRoles.{places_more}
use Rattle.rbac_diff.proofs.covered_roles.covered_places.Goals as goal

pub loop-role-preserved : goal.loop-role-preserved
loop-role-preserved g c = rw c.in_ok-push.ensures.items (places_more g.T.Ruled.rules c.args.roles.now c.args.others.now c.loop-role.places.items c.in_ok-covered_place.field-0 c.loop-role.role-index c.role-item.result c.loop-role-test.true c.role-item.is c.loop-role.invariant c.in_ok-covered_place.ensures)
