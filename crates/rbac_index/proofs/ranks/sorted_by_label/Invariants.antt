use Rattle.rbac_index.specs.HolderViews.{labels_seen}
use Rattle.rbac_index.proofs.RankLemmas.{ArePlacedBelow}
use Rattle.rbac_index.proofs.ranks.sorted_by_label.Given as goal

abbrev pub invariant-loop-place : goal.invariant-loop-place
invariant-loop-place l = ArePlacedBelow (labels_seen l.every l.seen) l.place l.placed.items
