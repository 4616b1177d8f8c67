use Rattle.std.proofs.lemmas.Bool.{both_ways}
use Rattle.rbac_index.specs.HolderViews.{requested_of, sighted}
use Rattle.rbac_index.proofs.SeenLemmas.{seen_dead, brings_live}
use Rattle.rbac_index.proofs.sightings.see_binding.Goals as goal

pub returns-in_ok-see_subjects : goal.returns-in_ok-see_subjects
returns-in_ok-see_subjects c = λ held verb at brings seen.
    c.in_ok-see_subjects.ensures held c.args.scope.now verb (requested_of c.args.requested) at
    (brings_live held c.args.scope.now verb (requested_of c.args.requested) c.args.place c.args.binding.now at (rw c.target.ensures at c.is_live_in.ensures.0 c.if-is_live_in.true) brings) seen

pub returns-else-is_live_in : goal.returns-else-is_live_in
returns-else-is_live_in c = λ held verb at brings seen.
    seen_dead held c.args.scope.now verb (requested_of c.args.requested) c.args.place c.args.binding.now (sighted c.args.seen.now.items) at
    (λ live. both_ways _ c.if-is_live_in.false (c.is_live_in.ensures.1 (rw c.target.ensures live))) seen
