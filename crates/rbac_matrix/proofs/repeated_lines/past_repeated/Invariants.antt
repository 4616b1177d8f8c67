use Rattle.std.proofs.Common.{◌≡◌, ◌⊎◌, length}
use Rattle.rbac_matrix.specs.RepeatedLines.{PassesRepeated}
use Rattle.rbac_matrix.specs.Lines.{IsSettled, lines_from}
use Rattle.rbac_matrix.proofs.repeated_lines.past_repeated.Given as goal

abbrev pub invariant-loop-line : goal.invariant-loop-line
invariant-loop-line l = record {
  settled : IsSettled l.universe l.at;
  passes : PassesRepeated l.index l.universe l.fn.at l.at;
  moved : (l.at ≡ l.fn.at) ⊎ (l.at.verb ≡ 0);
}

abbrev pub decreases-loop-line : goal.decreases-loop-line
decreases-loop-line l = length (lines_from l.universe l.at)
