use Rattle.std.proofs.Common.{◌≤◌, ℕ}
use Rattle.rbac_matrix.specs.Cursors.{IsAhead, IsCursorAt, IsWithin, steps_left}
use Rattle.rbac_matrix.specs.Shown.{line_of}
use Rattle.rbac_matrix.proofs.repeated_lines.has_cursor_from.Given as goal

abbrev pub invariant-loop-no : goal.invariant-loop-no
invariant-loop-no l = record {
  ahead : (k : ℕ) → l.first ≤ k → IsCursorAt l.index (line_of l.line) k → IsAhead l.index (line_of l.line) l.walk k;
  within : IsWithin l.index (line_of l.line) l.runs l.walk;
}

abbrev pub decreases-loop-no : goal.decreases-loop-no
decreases-loop-no l = steps_left l.index l.walk
