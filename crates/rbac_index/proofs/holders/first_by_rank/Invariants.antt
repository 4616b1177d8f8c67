use Rattle.std.proofs.Common.{Bool, length}
use Rattle.rbac_index.specs.HolderViews.{labels_seen}
use Rattle.rbac_index.specs.Ranks.{AreRanks}
use Rattle.rbac_index.proofs.FirstLemmas.{AreFirstsUpTo}
use Rattle.rbac_index.proofs.holders.first_by_rank.Given as goal

abbrev pub invariant-loop-rank : goal.invariant-loop-rank
invariant-loop-rank l = (every : Bool) → AreRanks (labels_seen every l.fn.seen.items) l.ranks → AreFirstsUpTo every l.fn.seen.items l.ranks (length l.yielded) l.firsts
