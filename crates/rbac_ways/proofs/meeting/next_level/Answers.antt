use Rattle.std.proofs.Common.{◌≡◌, [], List, ℕ, arith, refl, subst, take}
use Rattle.std.proofs.lemmas.List.{take_all, take_more}
use Rattle.rbac_ways.specs.Meeting.{IsAfterLeast, IsNextTo, MeetsNodes}
use Rattle.rbac_ways.proofs.Edges.{less_before, meets_node}
use Rattle.rbac_ways.proofs.Meets.{meets_in_order}
use Rattle.rbac_ways.proofs.meeting.next_level.Goals as goal

pub loop-node-preserved : goal.loop-node-preserved
loop-node-preserved c =
    let g = c.args.graph.now in
    let nodes = c.args.level.now in
    let i = c.loop-node.node-index in
    record {
      passed = c.in_ok-meet_next.ensures.passed;
      meets = rw (take_more nodes i 0 c.loop-node-test.true)
          (meets_node g c.args.edges (take i nodes) _ c.args.stops.now.items c.loop-node.stops.items c.meet_next.new.stops.items
          [] c.loop-node.next.items c.meet_next.new.level.items c.requires.nodes
          (λ y w. less_before nodes i _ y c.requires.ordered c.loop-node-test.true refl w)
          c.loop-node.invariant.meets c.in_ok-meet_next.ensures.meets);
    }

pub returns-clause-meets : goal.returns-clause-meets
returns-clause-meets c =
    let nodes = c.args.level.now in
    let g = c.args.graph.now in
    let all : take c.loop-node.node-index nodes ≡ nodes = take_all c.loop-node.node-index nodes (omega (arith, c.loop-node-test.false)) in
    meets_in_order (IsNextTo g nodes) (IsAfterLeast g nodes c.args.edges) c.args.stops.now.items c.loop-node.stops.items c.loop-node.next.items c.in_order.result.items
    c.in_order.ensures.same c.in_order.ensures.len
    (subst (λ (xs : List ℕ). MeetsNodes (IsNextTo g xs) (IsAfterLeast g xs c.args.edges) c.args.stops.now.items c.loop-node.stops.items [] c.loop-node.next.items) all c.loop-node.invariant.meets)
