use Rattle.std.proofs.Common.{ℕ, ◌<◌}
use Rattle.rbac_index.specs.Deciding.{AllowsOf}
use Rattle.rbac_index.specs.HolderViews.{requested_of}
use Rattle.rbac_index.proofs.deciding.first_allowing.Given as goal

abbrev pub invariant-loop-no : goal.invariant-loop-no
invariant-loop-no l = (n : ℕ) → n < l.no → AllowsOf l.policy l.verb (requested_of l.requested) l.place n → ⊥
