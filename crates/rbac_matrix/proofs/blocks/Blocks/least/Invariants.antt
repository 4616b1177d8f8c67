use Rattle.rbac_matrix.proofs.BlockLemmas.{IsLeastBelow}
use Rattle.rbac_matrix.proofs.blocks.Blocks.least.Given as goal

abbrev pub invariant-loop-block : goal.invariant-loop-block
invariant-loop-block l = IsLeastBelow l.self.kept.items l.block-index l.place l.number
