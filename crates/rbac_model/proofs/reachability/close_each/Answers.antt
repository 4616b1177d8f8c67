use Rattle.std.proofs.Common.{refl, arith}
use Rattle.rbac_model.proofs.Closing.{same_alike, still_alike, still_graph, still_ends}
use Rattle.rbac_model.proofs.reachability.close_each.Goals as goal

pub loop-at-init : goal.loop-at-init
loop-at-init c = record { len = refl; alike = same_alike c.args.graph.now.items; full = c.requires.full }

pub close_at-requires-clause-graph : goal.close_at-requires-clause-graph
close_at-requires-clause-graph c = still_graph c.args.graph.now.items c.loop-at.graph.items c.requires.graph c.loop-at.invariant.alike

pub close_at-requires-clause-ends : goal.close_at-requires-clause-ends
close_at-requires-clause-ends c = still_ends c.args.graph.now.items c.loop-at.graph.items c.args.ends.now c.requires.ends c.loop-at.invariant.alike

pub loop-at-preserved : goal.loop-at-preserved
loop-at-preserved c = record {
  len = omega (arith, c.in_ok-close_at.ensures.len, c.loop-at.invariant.len);
  alike = still_alike c.args.graph.now.items c.loop-at.graph.items c.close_at.new.graph.items c.loop-at.invariant.alike c.in_ok-close_at.ensures.alike;
  full = c.in_ok-close_at.ensures.full;
}
