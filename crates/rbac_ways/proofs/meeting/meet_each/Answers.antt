use Rattle.std.proofs.Common.{◌≡◌, Contains, List, ℕ, arith, subst, take}
use Rattle.std.proofs.lemmas.List.{take_all, take_more}
use Rattle.rbac_ways.specs.Meeting.{IsOneOf, MeetsNodes}
use Rattle.rbac_ways.proofs.Meets.{meets_push}
use Rattle.rbac_ways.proofs.meeting.meet_each.Goals as goal

pub loop-node-preserved : goal.loop-node-preserved
loop-node-preserved c =
    let i = c.loop-node.node-index in
    rw (take_more c.args.nodes.now i 0 c.loop-node-test.true)
    (meets_push (λ j. c.args.stop) (take i c.args.nodes.now) _ c.args.stops.now.items c.loop-node.stops.items c.meet.new.stops.items
    c.args.level.now.items c.loop-node.level.items c.meet.new.level.items c.loop-node.invariant c.in_ok-meet.ensures)

pub returns : goal.returns
returns c =
    let nodes = c.args.nodes.now in
    let all : take c.loop-node.node-index nodes ≡ nodes = take_all c.loop-node.node-index nodes (omega (arith, c.loop-node-test.false)) in
    subst (λ (xs : List ℕ). MeetsNodes (Contains xs) (IsOneOf (Contains xs) c.args.stop) c.args.stops.now.items c.loop-node.stops.items c.args.level.now.items c.loop-node.level.items) all c.loop-node.invariant
