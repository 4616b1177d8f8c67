use Rattle.std.proofs.Common.{ℕ, ◌<◌}
use Rattle.rbac_model.specs.Graphs.{HasPlace, LeadsAlike, AreFull}
use Rattle.rbac_model.proofs.reachability.close.Given as goal

abbrev pub invariant-loop-at : goal.invariant-loop-at
invariant-loop-at l = record {
  alike : LeadsAlike l.fn.graph.items l.graph.items;
  full : AreFull l.graph.items l.closed;
  closed : (k : ℕ) → k < l.at → HasPlace l.closed k;
}
