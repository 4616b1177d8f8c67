use Rattle.std.proofs.Common.{◌≡◌, ◌++◌, take}
use Rattle.std.specs.List.{filter_map}
use Rattle.rbac_groups.specs.Memberships.{user_named}
use Rattle.rbac_groups.proofs.users.put_users.Given as goal

abbrev pub invariant-loop-name : goal.invariant-loop-name
invariant-loop-name l = l.users.items ≡ l.initial.users.items ++ filter_map user_named (take l.name-index l.names)
