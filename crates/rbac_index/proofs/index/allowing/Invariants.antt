use Rattle.std.proofs.Common.{ℕ, ◌↔◌, take, All, Any, Contains}
use Rattle.std.specs.List.Sorted.{IsStrictlyIncreasing}
use Rattle.rbac_index.specs.HolderViews.{requested_of}
use Rattle.rbac_index.specs.Indexed.{IsAllowedBy}
use Rattle.rbac_index.proofs.index.allowing.Given as goal

abbrev pub invariant-loop-at : goal.invariant-loop-at
invariant-loop-at l = All IsStrictlyIncreasing l.lists.items
    × ((n : ℕ) → Any (λ x. Contains x n) l.lists.items ↔ IsAllowedBy l.rules l.starts (take l.at-index l.places) l.verb (requested_of l.requested) n)
