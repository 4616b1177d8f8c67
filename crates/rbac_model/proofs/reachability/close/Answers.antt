use Rattle.std.proofs.Common.{arith, inl, inr}
use Rattle.std.proofs.lemmas.Bool.{cases_eq}
use Rattle.rbac_model.proofs.PlaceSets.{has_none}
use Rattle.rbac_model.proofs.Closing.{still_alike, still_graph, still_ends, all_closed}
use Rattle.rbac_model.proofs.reachability.close.Goals as goal

pub close_each-requires-clause-full : goal.close_each-requires-clause-full
close_each-requires-clause-full c = rw c.new-closed.ensures (λ a k b has first second. absurd (has_none a has))

pub close_at-requires-clause-graph : goal.close_at-requires-clause-graph
close_at-requires-clause-graph c = still_graph c.args.graph.now.items c.loop-at.graph.items c.requires c.loop-at.invariant.alike

pub close_at-requires-clause-ends : goal.close_at-requires-clause-ends
close_at-requires-clause-ends c = still_ends c.args.graph.now.items c.loop-at.graph.items c.in_ok-ends.ends (rw c.as_slice.ensures.value at c.in_ok-ends.ensures) c.loop-at.invariant.alike

pub loop-at-preserved : goal.loop-at-preserved
loop-at-preserved c = record {
  alike = still_alike c.args.graph.now.items c.loop-at.graph.items c.close_at.new.graph.items c.loop-at.invariant.alike c.in_ok-close_at.ensures.alike;
  full = c.in_ok-close_at.ensures.full;
  closed = λ k l. elim (cases_eq k c.loop-at.at) [
    | inl e ↦ rw e (c.in_ok-close_at.ensures.closed (omega arith))
    | inr ne ↦ c.in_ok-close_at.ensures.kept k (c.loop-at.invariant.closed k (omega (arith, l, ne)))
  ];
}

pub returns-clause-exact : goal.returns-clause-exact
returns-clause-exact c =
    all_closed c.args.graph.now.items c.loop-at.graph.items c.loop-at.closed c.loop-at.invariant.alike c.loop-at.invariant.full
    (λ k l. c.loop-at.invariant.closed k (omega (arith, l)))
