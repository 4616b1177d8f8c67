use Rattle.std.specs.Prelude.{◌≡◌, take}
use Rattle.rbac_manifest.proofs.copies.ItemsCopyable.copy.Given as goal

abbrev pub invariant-loop-item : goal.invariant-loop-item
invariant-loop-item g l = l.copies ≡ take l.item-index l.self
