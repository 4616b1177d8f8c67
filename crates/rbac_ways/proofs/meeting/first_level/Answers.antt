use Rattle.std.proofs.Common.{◌≡◌, Contains, List, ℕ, [], arith, subst, take}
use Rattle.std.proofs.lemmas.List.{take_all, take_more}
use Rattle.rbac_ways.specs.Meeting.{IsFirstStop, MeetsNodes, stop_behind}
use Rattle.rbac_ways.proofs.Meets.{meets_push, meets_in_order}
use Rattle.rbac_ways.proofs.meeting.first_level.Goals as goal

pub loop-start-preserved : goal.loop-start-preserved
loop-start-preserved c =
    let i = c.loop-start.start-index in
    rw (take_more c.args.starts.now i 0 c.loop-start-test.true)
    (meets_push (stop_behind 0) (take i c.args.starts.now) _ c.args.stops.now.items c.loop-start.stops.items c.meet.new.stops.items
    [] c.loop-start.level.items c.meet.new.level.items c.loop-start.invariant c.in_ok-meet.ensures)

pub returns-clause-meets : goal.returns-clause-meets
returns-clause-meets c =
    let starts = c.args.starts.now in
    let all : take c.loop-start.start-index starts ≡ starts = take_all c.loop-start.start-index starts (omega (arith, c.loop-start-test.false)) in
    meets_in_order (Contains starts) (IsFirstStop starts) c.args.stops.now.items c.loop-start.stops.items c.loop-start.level.items c.in_order.result.items
    c.in_order.ensures.same c.in_order.ensures.len
    (subst (λ (xs : List ℕ). MeetsNodes (Contains xs) (IsFirstStop xs) c.args.stops.now.items c.loop-start.stops.items [] c.loop-start.level.items) all c.loop-start.invariant)
