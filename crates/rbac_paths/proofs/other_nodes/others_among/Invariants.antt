use Rattle.std.proofs.Common.{map, take}
use Rattle.rbac_model.specs.Policies.{PolicyView}
use Rattle.rbac_paths.specs.Joints.{AreOthersAt, DecideOn, IsNobody, SeesAll}
use Rattle.rbac_paths.specs.Nodes.{node_of}
use Rattle.rbac_paths.proofs.other_nodes.others_among.Given as goal

abbrev pub invariant-loop-place : goal.invariant-loop-place
invariant-loop-place l = ((p : PolicyView) → DecideOn p l.steps (node_of l.from) l.holdings IsNobody
    → AreOthersAt p l.steps (node_of l.from) (map node_of l.nodes) (take l.place-index l.places) l.taken.items)
    × SeesAll l.steps l.holdings l.seen
