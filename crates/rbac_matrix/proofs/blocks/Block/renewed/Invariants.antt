use Rattle.std.proofs.Common.{◌≤◌}
use Rattle.rbac_matrix.specs.Shown.{line_of}
use Rattle.rbac_matrix.specs.Blocks.{IsLeastIn}
use Rattle.rbac_matrix.specs.Cursors.{IsWithin, steps_left}
use Rattle.rbac_matrix.proofs.blocks.Block.renewed.Given as goal

abbrev pub invariant-loop-no : goal.invariant-loop-no
invariant-loop-no l = record {
  least : IsLeastIn l.seats l.self.walk.next l.walk.next l.place l.number;
  within : IsWithin l.index (line_of l.line) l.runs l.walk;
  upto : l.walk.next ≤ l.self.end;
  on : l.self.walk.next ≤ l.walk.next;
}

abbrev pub decreases-loop-no : goal.decreases-loop-no
decreases-loop-no l = steps_left l.index l.walk
