use Rattle.std.proofs.Common.{◌≡◌, vec_len}
use Rattle.rbac_model.specs.Graphs.{LeadsAlike, AreFull}
use Rattle.rbac_model.proofs.reachability.close_each.Given as goal

abbrev pub invariant-loop-at : goal.invariant-loop-at
invariant-loop-at l = record {
  len : vec_len l.graph ≡ vec_len l.initial.graph;
  alike : LeadsAlike l.initial.graph.items l.graph.items;
  full : AreFull l.graph.items l.closed;
}
