use Rattle.std.proofs.Common.{[], arith, get_or, subst, take, ℕ, List}
use Rattle.std.proofs.lemmas.List.{take_all, take_more}
use Rattle.rbac_ways.proofs.Listing.{AreListedIn, listed_more, listed_none, listed_past}
use Rattle.rbac_ways.proofs.listed.listed_in.Goals as goal
use Rattle.rbac_ways.proofs.listed.listed_in.Goals.{in-Some+in_ok-extend_from_slice, in_default}

pub loop-place-init : goal.loop-place-init
loop-place-init g c = listed_none c.args.lists.now c.new-all.result.items c.new-all.ensures.items

pub loop-place-preserved : goal.loop-place-preserved
loop-place-preserved g c =
    let lists = c.args.lists.now in
    let places = c.args.places.now in
    let i = c.loop-place.place-index in
    let place = get_or places i 0 in
    rw (take_more places i 0 c.loop-place-test.true) (elim c.match-get.branch [
      | in-Some+in_ok-extend_from_slice w ↦ rw (w.all-is, w.in_ok-extend_from_slice.ensures.items, w.as_slice.ensures, w.in-Some.ensures.lookup.3.1 []) (listed_more lists (take i places) place c.loop-place.all.items c.loop-place.invariant)
      | in_default w ↦ rw w.all-is (listed_past lists (take i places) place c.loop-place.all.items w.in_default.ensures.lookup.3 c.loop-place.invariant)
    ])

pub returns : goal.returns
returns g c =
    subst (λ (places : List ℕ). AreListedIn c.args.lists.now places c.loop-place.all.items)
    (take_all c.loop-place.place-index c.args.places.now (let test = c.loop-place-test.false in omega (arith, test))) c.loop-place.invariant
