use Rattle.std.proofs.Common.{rules, ap, sym, ◌++◌, ◌≡◌, ◌∙◌, ◌<◌, ◌+◌, [], ℕ, List, Option, None, arith, length, replicate, subst}
use Rattle.std.proofs.lemmas.List.{nil_from_length}
use Rattle.rbac_ways.specs.Ways.{GraphView}
use Rattle.rbac_ways.specs.Meeting.{IsAfterLeast, IsMetTo, IsNextTo, IsFirstStop, MeetsNodes}
use Rattle.std.specs.Prelude.{Contains}
use Rattle.rbac_ways.specs.declared.graph.Stop.{Stop}
use Rattle.rbac_ways.proofs.Orders.{AreInOrderTo, in_order_all, in_order_more, in_order_none}
use Rattle.rbac_ways.proofs.Searching.{all_unmet, met_all, met_first, met_next}
use Rattle.rbac_ways.proofs.search.shortest_ways.Goals as goal

pub loop-alloc-init : goal.loop-alloc-init
loop-alloc-init c =
    let g = c.args.graph.now in
    let node_count = length c.as_slice.result.now in
    let same : c.in_ok-stops.stops.items ≡ replicate node_count None = c.in_ok-stops.ensures.items_if_clones_equal (λ y e. search rules) in
    let nodes : node_count ≡ length g.takes = ap length c.as_slice.ensures.value ∙ ap (λ (x : GraphView). length x.takes) c.graph.view_is in
    let meets : MeetsNodes (Contains c.args.starts.now) (IsFirstStop c.args.starts.now) (replicate (length g.takes) None) c.first_level.new.stops.items [] c.in_ok-level.level.items =
    subst (λ (old : List (Option Stop)). MeetsNodes (Contains c.args.starts.now) (IsFirstStop c.args.starts.now) old c.first_level.new.stops.items [] c.in_ok-level.level.items) (same ∙ ap (λ (n : ℕ). replicate n None) nodes) c.in_ok-level.ensures.meets in
    record {
      met = met_first g c.args.starts.now c.first_level.new.stops.items c.in_ok-level.level.items meets c.in_ok-level.ensures.ordered;
      passed = c.in_ok-passed.ensures c.first_level.new.stops.items;
      order = in_order_none c.first_level.new.stops.items c.new-order.result.items c.new-order.ensures.items;
      room = let all = all_unmet (length g.takes) in let room = meets.room in omega (arith, all, room);
    }

pub loop-alloc-preserved : goal.loop-alloc-preserved
loop-alloc-preserved c =
    let g = c.args.graph.now in
    let old = c.loop-alloc.level.items in
    let next = c.in_ok-level-2.level.items in
    let meets : MeetsNodes (IsNextTo g old) (IsAfterLeast g old (c.loop-alloc.edges + 1)) c.loop-alloc.stops.items c.next_level.new.stops.items [] next = rw c.as_slice-in-loop-alloc-2.ensures.value at c.in_ok-level-2.ensures.meets in
    let order : c.extend_from_slice.new.self.items ≡ c.loop-alloc.order.items ++ old = c.in_ok-extend_from_slice.ensures.items ∙ ap (λ (xs : List ℕ). c.loop-alloc.order.items ++ xs) c.as_slice-in-loop-alloc.ensures.value in
    record {
      met = met_next g c.args.starts.now c.loop-alloc.edges c.loop-alloc.stops.items c.next_level.new.stops.items old next c.loop-alloc.invariant.met meets c.in_ok-level-2.ensures.ordered;
      passed = c.in_ok-level-2.ensures.passed;
      order = subst (λ (xs : List ℕ). AreInOrderTo (c.loop-alloc.edges + 1) c.next_level.new.stops.items xs) (sym order)
          (in_order_more g c.args.starts.now c.loop-alloc.edges c.loop-alloc.stops.items c.next_level.new.stops.items old next c.loop-alloc.invariant.met meets c.loop-alloc.order.items c.loop-alloc.invariant.order);
      room = let had = c.loop-alloc.invariant.room in let room = meets.room in let len = c.loop-alloc.level.ok.0 in let some : 0 < c.loop-alloc.level.len = search rules in omega (arith, had, room, some, len);
    }

pub returns : goal.returns
returns c =
    let none : c.loop-alloc.level.items ≡ [] = nil_from_length c.loop-alloc.level.items (let none : c.loop-alloc.level.len ≡ 0 = search rules in let len = c.loop-alloc.level.ok.0 in omega (arith, none, len)) in
    let met = subst (λ (level : List ℕ). IsMetTo c.args.graph.now c.args.starts.now c.loop-alloc.edges c.loop-alloc.stops.items level) none c.loop-alloc.invariant.met in
    record {
      stops = met_all c.args.graph.now c.args.starts.now c.loop-alloc.edges c.loop-alloc.stops.items met;
      order = in_order_all c.args.graph.now c.args.starts.now c.loop-alloc.edges c.loop-alloc.stops.items met c.loop-alloc.order.items c.loop-alloc.invariant.order;
    }
