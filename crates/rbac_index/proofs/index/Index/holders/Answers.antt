use Rattle.rbac_index.specs.HolderViews.{requested_of, sighted}
use Rattle.rbac_index.specs.Indexed.{AreCandidates}
use Rattle.rbac_index.proofs.FirstLemmas.{firsts_hold}
use Rattle.rbac_index.proofs.HoldingLemmas.{candidates_within}
use Rattle.rbac_index.proofs.index.Index.holders.Goals as goal

pub sightings_of-requires : goal.sightings_of-requires
sightings_of-requires c =
    let are : AreCandidates c.self.inside.policy.now c.args.verb.now (requested_of c.args.requested) c.as_slice.result.now = rw (c.as_slice.ensures.numbers, c.self.view_is) c.in_ok-numbers.ensures in
    candidates_within c.self.inside.policy.now c.args.verb.now (requested_of c.args.requested) c.as_slice.result.now are

pub first_of-requires : goal.first_of-requires
first_of-requires c =
    let are : AreCandidates c.self.inside.policy.now c.args.verb.now (requested_of c.args.requested) c.as_slice.result.now = rw (c.as_slice.ensures.numbers, c.self.view_is) c.in_ok-numbers.ensures in
    (c.in_ok-seen.ensures c.args.verb.now are).ordered

pub returns : goal.returns
returns c =
    let are : AreCandidates c.self.inside.policy.now c.args.verb.now (requested_of c.args.requested) c.as_slice.result.now = rw (c.as_slice.ensures.numbers, c.self.view_is) c.in_ok-numbers.ensures in
    let seen = c.in_ok-seen.ensures c.args.verb.now are in
    rw (← c.self.view_is) (firsts_hold c.self.inside.policy.now.held c.args.scope.now c.args.verb.now (requested_of c.args.requested) (sighted c.in_ok-seen.seen.items) seen c.args.every c.in_ok-first_of.field-0 c.in_ok-first_of.ensures)
