use Rattle.std.proofs.Common.{length}
use Rattle.rbac_matrix.specs.Cursors.{AreKnownAt}
use Rattle.rbac_matrix.specs.Lines.{IsSettled, lines_from}
use Rattle.rbac_matrix.specs.Metering.{Skips}
use Rattle.rbac_matrix.specs.Seats.{AreEmpty, Costs}
use Rattle.rbac_matrix.proofs.steps.next_line.Given as goal

abbrev pub invariant-loop-line : goal.invariant-loop-line
invariant-loop-line l = record {
  settled : IsSettled l.basis.universe.now l.at;
  skips : Skips l.basis.index.now.held l.basis.universe.now l.fn.at l.at;
  empty : AreEmpty l.basis.index.now l.seats;
  known : AreKnownAt l.basis.index.now l.basis.universe.now l.at l.kept.runs;
  costs : Costs 0 0 l.fn.seats l.seats l.fn.meter l.meter;
}

abbrev pub decreases-loop-line : goal.decreases-loop-line
decreases-loop-line l = length (lines_from l.basis.universe.now l.at)
