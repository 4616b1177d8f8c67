use Rattle.std.proofs.Common.{◌≤◌, ℕ}
use Rattle.rbac_matrix.specs.Shown.{line_of}
use Rattle.rbac_matrix.specs.Cursors.{IsAhead, IsWithin, steps_left}
use Rattle.rbac_matrix.proofs.walk.next_cursor.Given as goal

abbrev pub invariant-loop-no : goal.invariant-loop-no
invariant-loop-no l = record {
  onward : l.initial.walk.next ≤ l.walk.next;
  ahead : (k : ℕ) → IsAhead l.index (line_of l.line) l.initial.walk k → l.walk.next ≤ k;
  within : IsWithin l.index (line_of l.line) l.runs l.walk;
}

abbrev pub decreases-loop-no : goal.decreases-loop-no
decreases-loop-no l = steps_left l.index l.walk
