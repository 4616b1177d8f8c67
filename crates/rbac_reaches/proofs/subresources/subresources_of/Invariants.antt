use Rattle.std.proofs.Common.{take}
use Rattle.rbac_reaches.specs.Wildcards.{ArePartsOf, IsForEvery}
use Rattle.rbac_reaches.proofs.subresources.subresources_of.Given as goal

abbrev pub invariant-loop-word : goal.invariant-loop-word
invariant-loop-word l = ArePartsOf IsForEvery (take l.word-index l.words) l.subresources.items
