use Rattle.std.proofs.Common.{◌≡◌, take}
use Rattle.rbac_paths.proofs.WordsAdded.{AddsOf}
use Rattle.rbac_paths.proofs.bound_names.add_role_names.Given as goal

abbrev pub invariant-loop-role : goal.invariant-loop-role
invariant-loop-role l = AddsOf (λ role name. role.name ≡ name) (take l.role-index l.roles) l.initial.names.items l.names.items
