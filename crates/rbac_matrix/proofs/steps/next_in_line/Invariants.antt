use Rattle.std.proofs.Common.{◌≡◌, ◌-◌, ◌⊎◌, ℕ, length}
use Rattle.rbac_matrix.specs.Shown.{line_of}
use Rattle.rbac_matrix.specs.Blocks.{AreBlocks}
use Rattle.rbac_matrix.specs.Passing.{IsNoEarlier, IsHit}
use Rattle.rbac_matrix.specs.Seats.{AreSeated, Costs}
use Rattle.rbac_matrix.proofs.steps.next_in_line.Given as goal

abbrev pub invariant-loop-place : goal.invariant-loop-place
invariant-loop-place l = record {
  seated : AreSeated l.basis.index.now (line_of l.line) l.basis.reaches.now l.from l.upto l.seats;
  blocks : AreBlocks l.basis.index.now (line_of l.line) l.kept.runs l.seats l.kept.blocks.kept.items;
  runs : l.kept.runs ≡ l.fn.kept.runs;
  moved : ((l.from ≡ l.fn.from) × (l.upto ≡ l.fn.upto)) ⊎ (l.upto ≡ 0);
  onward : IsNoEarlier l.from l.upto l.fn.from l.fn.upto;
  before : (q k : ℕ) → IsHit l.basis.index.now l.basis.universe.now (line_of l.line) q k → IsNoEarlier q k l.fn.from l.fn.upto → IsNoEarlier q k l.from l.upto;
  costs : Costs 0 0 l.fn.seats l.seats l.fn.meter l.meter;
}

abbrev pub decreases-loop-place : goal.decreases-loop-place
decreases-loop-place l = length l.basis.universe.now.targets - l.from
