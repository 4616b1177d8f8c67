use Rattle.std.proofs.Common.{◌≡◌, ◌<◌, ◌∙◌, Bool, List, ℕ, Contains, [], ap, arith, get_or, length, rules, subst}
use Rattle.std.proofs.lemmas.List.{get_or_default}
use Rattle.rbac_terms.proofs.Cases.{on_ok}
use Rattle.rbac_ways.proofs.Edges.{met_more}
use Rattle.rbac_ways.specs.Meeting.{IsOneOf, MeetsNodes, SetHas}
use Rattle.rbac_ways.specs.Ways.{GraphView}
use Rattle.rbac_ways.proofs.meeting.meet_set.Goals as goal

pub returns-in-Some-false : goal.returns-in-Some-false
returns-in-Some-false c =
    let g = c.args.graph.now in
    let k = c.args.set in
    let low : k < length c.args.passed.now.items = subst (λ (passed : List Bool). k < length passed) c.as_slice.ensures.value c.in-Some-false.ensures.lookup.3.0 in
    let all : c.as_slice-in-Some-false.result.now ≡ get_or g.sets k [] =
    c.as_slice-in-Some-false.ensures ∙ c.index.ensures ∙ ap (λ (x : GraphView). get_or x.sets k c.index.result.now) c.graph.view_is
    ∙ get_or_default g.sets k c.index.result.now [] (let len = c.requires.sets in omega (arith, low, len)) in
    let meets = on_ok c.meet_each.result (subst (λ (xs : List ℕ). MeetsNodes (Contains xs) (IsOneOf (Contains xs) c.args.stop) c.args.stops.now.items c.meet_each.new.stops.items c.args.level.now.items c.meet_each.new.level.items) all) c.meet_each.ensures in
    record {
      meets = meets;
      sets = search rules;
      met = on_ok c.meet_each.result (met_more (SetHas g) c.args.passed.now.items c.args.stops.now.items c.meet_each.new.stops.items (IsOneOf (SetHas g k) c.args.stop) c.args.level.now.items c.meet_each.new.level.items k c.requires.met) meets;
    }
