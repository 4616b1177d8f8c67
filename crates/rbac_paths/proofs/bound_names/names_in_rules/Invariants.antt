use Rattle.std.proofs.Common.{[], List, take}
use Rattle.rbac_terms.specs.Text.{Text}
use Rattle.rbac_paths.proofs.BoundNames.{AddsOfClusterRoles, AddsOfRoles}
use Rattle.rbac_paths.proofs.bound_names.names_in_rules.Given as goal

abbrev pub invariant-loop-role : goal.invariant-loop-role
invariant-loop-role l = AddsOfRoles (take l.role-index l.role-items) [] l.names.items

abbrev pub invariant-loop-role-2 : goal.invariant-loop-role-2
invariant-loop-role-2 l = (between : List Text) × AddsOfRoles l.policy.held.roles [] between × AddsOfClusterRoles (take l.role-index l.role-items) between l.names.items
