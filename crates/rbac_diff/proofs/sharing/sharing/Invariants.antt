use Rattle.std.proofs.Common.{take}
use Rattle.rbac_diff.specs.Sharing.{AreSharing}
use Rattle.rbac_diff.proofs.sharing.sharing.Given as goal

abbrev pub invariant-loop-held : goal.invariant-loop-held
invariant-loop-held l = AreSharing (take l.held-index l.rules) l.rule l.near.items
