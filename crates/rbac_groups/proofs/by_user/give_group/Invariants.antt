use Rattle.std.proofs.Common.{take}
use Rattle.rbac_groups.specs.ByUser.{GivesEach}
use Rattle.rbac_groups.proofs.by_user.give_group.Given as goal

abbrev pub invariant-loop-user : goal.invariant-loop-user
invariant-loop-user l = GivesEach l.initial.groups l.groups (take l.user-index l.user-items) l.group
