use Rattle.std.proofs.Common.{ℕ, length}
use Rattle.rbac_matrix.specs.Blocks.{AreBlocksAt}
use Rattle.rbac_matrix.specs.Cursors.{AreRunsAt}
use Rattle.rbac_matrix.specs.Lines.{lines_from}
use Rattle.rbac_matrix.specs.Passing.{Leads}
use Rattle.rbac_matrix.specs.Metering.{IsMetered, IsReady}
use Rattle.rbac_matrix.specs.declared.line.Place.{Place}
use Rattle.rbac_matrix.proofs.steps.next_cell.Given as goal

abbrev pub invariant-loop-line : goal.invariant-loop-line
invariant-loop-line l = record {
  ready : IsReady l.basis.index.now l.basis.universe.now l.basis.reaches.now l.at l.from l.upto l.seats;
  runs : AreRunsAt l.basis.index.now l.basis.universe.now l.at l.kept.runs;
  blocks : AreBlocksAt l.basis.index.now l.basis.universe.now l.at l.kept l.seats;
  leads : Leads l.basis.index.now l.basis.universe.now l.fn.at l.fn.from l.fn.upto l.at l.from l.upto;
  metered : (start : Place) (sought given : ℕ) → IsMetered l.basis.index.now l.basis.universe.now start sought l.fn.at l.fn.seats given l.fn.meter → IsMetered l.basis.index.now l.basis.universe.now start sought l.at l.seats given l.meter;
}

abbrev pub decreases-loop-line : goal.decreases-loop-line
decreases-loop-line l = length (lines_from l.basis.universe.now l.at)
