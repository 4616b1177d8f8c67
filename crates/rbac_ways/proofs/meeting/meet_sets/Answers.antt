use Rattle.std.proofs.Common.{◌∙◌, List, ℕ, arith, subst, take}
use Rattle.std.proofs.lemmas.List.{take_all, take_more}
use Rattle.rbac_ways.specs.Meeting.{IsOneOf, MeetsNodes, SetHas, SomeHas}
use Rattle.rbac_ways.proofs.Edges.{meets_more}
use Rattle.rbac_ways.proofs.meeting.meet_sets.Goals as goal

pub loop-set-preserved : goal.loop-set-preserved
loop-set-preserved c =
    let i = c.loop-set.set-index in
    record {
      sets = c.in_ok-meet_set.ensures.sets ∙ c.loop-set.invariant.sets;
      met = c.in_ok-meet_set.ensures.met;
      meets = rw (take_more c.args.sets.now i 0 c.loop-set-test.true)
          (meets_more (SetHas c.args.graph.now) (take i c.args.sets.now) _ c.args.stop c.args.stops.now.items c.loop-set.stops.items c.meet_set.new.stops.items
          c.args.level.now.items c.loop-set.level.items c.meet_set.new.level.items c.loop-set.invariant.meets c.in_ok-meet_set.ensures.meets);
    }

pub returns-clause-meets : goal.returns-clause-meets
returns-clause-meets c =
    let sets = c.args.sets.now in
    let has = SetHas c.args.graph.now in
    subst (λ (ks : List ℕ). MeetsNodes (SomeHas has ks) (IsOneOf (SomeHas has ks) c.args.stop) c.args.stops.now.items c.loop-set.stops.items c.args.level.now.items c.loop-set.level.items)
    (take_all c.loop-set.set-index sets (omega (arith, c.loop-set-test.false))) c.loop-set.invariant.meets
