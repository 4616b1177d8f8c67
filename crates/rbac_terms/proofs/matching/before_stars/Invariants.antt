use Rattle.std.proofs.Common.{◌≡◌, ◌+◌, ◌++◌, ℕ, length, replicate}
use Rattle.rbac_terms.specs.Text.{star}
use Rattle.rbac_terms.proofs.matching.before_stars.Given as goal

abbrev pub invariant-loop-shorter : goal.invariant-loop-shorter
invariant-loop-shorter l = (k : ℕ) × (l.word ≡ l.before ++ replicate (k + 1) star)

abbrev pub decreases-loop-shorter : goal.decreases-loop-shorter
decreases-loop-shorter l = length l.before
