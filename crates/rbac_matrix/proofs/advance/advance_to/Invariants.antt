use Rattle.std.proofs.Common.{◌≡◌, ℕ, ◌<◌, ◌≤◌, length}
use Rattle.rbac_matrix.specs.Shown.{line_of}
use Rattle.rbac_matrix.specs.Blocks.{AreBlocks, IsOfBlock, block_at}
use Rattle.rbac_matrix.specs.Seats.{AreSeatedBefore, Costs, seat_at}
use Rattle.rbac_matrix.proofs.advance.advance_to.Given as goal

abbrev pub invariant-loop-at : goal.invariant-loop-at
invariant-loop-at l = record {
  seated : AreSeatedBefore l.basis.index.now (line_of l.line) l.basis.reaches.now l.place l.seats;
  costs : Costs 0 0 l.fn.seats l.seats l.fn.meter l.meter;
  blocks : AreBlocks l.basis.index.now (line_of l.line) l.kept.runs l.seats l.kept.blocks.kept.items;
  runs : l.kept.runs ≡ l.fn.kept.runs;
  count : length l.kept.blocks.kept.items ≡ length l.fn.kept.blocks.kept.items;
  passed : (i : ℕ) → i < l.at → (k : ℕ) → IsOfBlock (block_at l.kept.blocks.kept.items i) k → l.place ≤ (seat_at l.seats k).place;
}
