use Rattle.std.proofs.Common.{map, take}
use Rattle.rbac_paths.specs.Joints.{IsDeciding}
use Rattle.rbac_paths.specs.Nodes.{node_of}
use Rattle.rbac_paths.specs.Tracing.{AreTraced}
use Rattle.rbac_paths.proofs.tracing.traced.Given as goal

abbrev pub invariant-loop-place : goal.invariant-loop-place
invariant-loop-place l = record {
  lines : AreTraced l.direction l.policy l.steps (map node_of l.nodes) l.come l.reached.stops.items (take l.place-index l.place-items) l.lines.items;
  known : IsDeciding l.policy l.steps (map node_of l.nodes) l.known;
}
