use Rattle.std.proofs.Common.{◌≡◌, ◌∙◌, [], List, ℕ, ap, arith, get_or, subst, take}
use Rattle.std.proofs.lemmas.List.{take_all, take_more}
use Rattle.rbac_ways.specs.Meeting.{IsOneOf, ListHas, MeetsNodes, SomeHas, stop_behind}
use Rattle.rbac_ways.specs.Ways.{GraphView}
use Rattle.rbac_ways.proofs.Edges.{meets_edges, meets_more}
use Rattle.rbac_ways.proofs.meeting.meet_next.Goals as goal

pub loop-list-preserved : goal.loop-list-preserved
loop-list-preserved c =
    let ks = c.as_slice-list-items.result.now in
    let i = c.loop-list.list-index in
    record {
      passed = c.in_ok-meet_list.ensures.passed;
      meets = rw (take_more ks i 0 c.loop-list-test.true)
          (meets_more (ListHas c.args.graph.now) (take i ks) _ (stop_behind c.args.edges c.args.node) c.args.stops.now.items c.loop-list.stops.items c.meet_list.new.stops.items
          c.args.level.now.items c.loop-list.level.items c.meet_list.new.level.items c.loop-list.invariant.meets c.in_ok-meet_list.ensures.meets);
    }

pub returns-clause-meets : goal.returns-clause-meets
returns-clause-meets c =
    let g = c.args.graph.now in
    let n = c.args.node in
    let ks = c.as_slice-list-items.result.now in
    let has = ListHas g in
    let all : take c.loop-list.list-index ks ≡ get_or g.takes n [] = take_all c.loop-list.list-index ks (omega (arith, c.loop-list-test.false))
    ∙ c.as_slice-list-items.ensures ∙ c.in-Some.ensures.lookup.3.1 [] ∙ ap (λ (xs : List (List ℕ)). get_or xs n []) c.as_slice.ensures.value ∙ ap (λ (x : GraphView). get_or x.takes n []) c.graph.view_is in
    meets_edges g n c.args.edges c.args.stops.now.items c.loop-list.stops.items c.args.level.now.items c.loop-list.level.items c.requires.nodes
    (subst (λ (xs : List ℕ). MeetsNodes (SomeHas has xs) (IsOneOf (SomeHas has xs) (stop_behind c.args.edges n)) c.args.stops.now.items c.loop-list.stops.items c.args.level.now.items c.loop-list.level.items) all c.loop-list.invariant.meets)
