use Rattle.rbac_matrix.specs.Shown.{line_of}
use Rattle.rbac_matrix.specs.Cursors.{IsWithin, steps_left}
use Rattle.rbac_matrix.proofs.LoopLemmas.{AreTaken}
use Rattle.rbac_matrix.proofs.seats.seat_line.Given as goal

abbrev pub invariant-loop-no : goal.invariant-loop-no
invariant-loop-no l = record {
  taken : AreTaken l.basis.index.now (line_of l.line) l.basis.reaches.now l.from l.walk l.filled l.initial.seats l.seats l.initial.meter l.meter;
  within : IsWithin l.basis.index.now (line_of l.line) l.runs l.walk;
}

abbrev pub decreases-loop-no : goal.decreases-loop-no
decreases-loop-no l = steps_left l.basis.index.now l.walk
