use Rattle.std.proofs.Common.{◌<◌, ◌≤◌, length}
use Rattle.rbac_matrix.specs.Shown.{line_of}
use Rattle.rbac_matrix.specs.Blocks.{AreBlocksBelow}
use Rattle.rbac_matrix.specs.Cursors.{IsWithin, steps_left}
use Rattle.rbac_matrix.proofs.blocks.Blocks.fill.Given as goal

abbrev pub invariant-loop-no : goal.invariant-loop-no
invariant-loop-no l = record {
  blocks : AreBlocksBelow l.index (line_of l.line) l.runs l.seats l.walk.next l.self.kept.items;
  within : IsWithin l.index (line_of l.line) l.runs l.walk;
  few : l.walk.next ≤ length l.seats;
  some : 0 < l.room → 0 < length l.self.kept.items;
}

abbrev pub decreases-loop-no : goal.decreases-loop-no
decreases-loop-no l = steps_left l.index l.walk
