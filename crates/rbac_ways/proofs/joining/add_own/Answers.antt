use Rattle.std.proofs.Common.{◌≡◌, Some, length, refl, slice_get}
use Rattle.std.proofs.lemmas.Option.{slice_get_read}
use Rattle.rbac_ways.proofs.Numbering.{own_here, own_past}
use Rattle.rbac_ways.proofs.joining.add_own.Goals as goal

pub returns-in_ok-push : goal.returns-in_ok-push
returns-in_ok-push c =
    let own = c.args.own.now in
    let place = c.in-Some.place.now in
    let found = c.in-Some.ensures.lookup.3 in
    let is : slice_get own c.args.node ≡ Some place = slice_get_read own (length own) c.args.node place refl found.0 (found.1 place) in
    rw c.in_ok-push.ensures.items (own_here (length c.args.lists.now) (length c.args.also.now) own c.args.node place c.args.taken.now.items is c.if-place-also.true)

pub returns-else-place-also : goal.returns-else-place-also
returns-else-place-also c =
    let own = c.args.own.now in
    let place = c.in-Some.place.now in
    let found = c.in-Some.ensures.lookup.3 in
    let is : slice_get own c.args.node ≡ Some place = slice_get_read own (length own) c.args.node place refl found.0 (found.1 place) in
    own_past (length c.args.lists.now) (length c.args.also.now) own c.args.node place c.args.taken.now.items is c.if-place-also.false
