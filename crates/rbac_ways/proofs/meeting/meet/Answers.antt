use Rattle.std.proofs.Common.{◌≡◌, ◌<◌, ◌∙◌, List, Option, None, length, subst, sym}
use Rattle.rbac_ways.proofs.Meets.{meets_one}
use Rattle.rbac_ways.specs.Meeting.{stop_at}
use Rattle.rbac_ways.specs.declared.graph.Stop.{Stop}
use Rattle.rbac_ways.proofs.meeting.meet.Goals as goal

pub returns-in_ok-push : goal.returns-in_ok-push
returns-in_ok-push c =
    let found = c.in-Some-None.ensures.lookup.3 in
    let low : c.args.node < length c.args.stops.now.items = subst (λ (stops : List (Option Stop)). c.args.node < length stops) c.as_slice.ensures.value found.0 in
    let none : stop_at c.args.stops.now.items c.args.node ≡ None = subst (λ (stops : List (Option Stop)). stop_at stops c.args.node ≡ None) c.as_slice.ensures.value (sym (found.1 None) ∙ c.in-Some-None.field-0-is) in
    rw c.in_ok-push.ensures.items (meets_one c.args.node c.args.stop c.args.stops.now.items c.args.level.now.items low none)
