use Rattle.std.proofs.Common.{take}
use Rattle.rbac_members.specs.Told.{AreLabels}
use Rattle.rbac_members.proofs.members.labels_of.Given as goal

abbrev pub invariant-loop-place : goal.invariant-loop-place
invariant-loop-place l = AreLabels l.every (take l.place l.holders) l.told.keys
