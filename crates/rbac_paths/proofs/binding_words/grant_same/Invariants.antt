use Rattle.std.proofs.Common.{◌<◌, ℕ, get_or}
use Rattle.rbac_paths.proofs.SameWords.{TakeAlike}
use Rattle.rbac_paths.proofs.binding_words.grant_same.Given as goal

abbrev pub invariant-loop-place : goal.invariant-loop-place
invariant-loop-place l = (k : ℕ) → k < l.place → TakeAlike l.policy (get_or l.a k 0) (get_or l.b k 0)
