use Rattle.std.proofs.Common.{◌≡◌, length, vec_len}
use Rattle.rbac_index.specs.HolderViews.{labels_seen}
use Rattle.rbac_index.specs.Ranks.{placed_label}
use Rattle.rbac_index.proofs.RankLemmas.{AreRanked}
use Rattle.rbac_index.proofs.ranks.ranks_of.Given as goal

abbrev pub invariant-loop-placed : goal.invariant-loop-placed
invariant-loop-placed l = AreRanked (labels_seen l.every l.seen) l.placed-items l.placed-index l.ranks.items l.rank (placed_label l.last) × (vec_len l.ranks ≡ length l.seen)
