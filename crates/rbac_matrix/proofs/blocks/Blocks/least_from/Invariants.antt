use Rattle.std.proofs.Common.{ℕ, ◌<◌, ◌≤◌}
use Rattle.rbac_matrix.specs.Blocks.{block_at}
use Rattle.rbac_matrix.proofs.blocks.Blocks.least_from.Given as goal

abbrev pub invariant-loop-block : goal.invariant-loop-block
invariant-loop-block l = (i : ℕ) → i < l.block-index → l.first < (block_at l.self.kept.items i).end → l.place ≤ (block_at l.self.kept.items i).place
