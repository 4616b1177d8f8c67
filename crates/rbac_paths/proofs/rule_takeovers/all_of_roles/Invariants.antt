use Rattle.std.proofs.Common.{[], List}
use Rattle.rbac_terms.specs.declared.granting.Role.{Role}
use Rattle.rbac_paths.specs.Takeovers.{AreTakeoversOfEach}
use Rattle.rbac_paths.specs.declared.takeover.Takeover.{Takeover}
use Rattle.rbac_paths.proofs.RuleTakeovers.{AreEach}
use Rattle.rbac_paths.proofs.rule_takeovers.all_of_roles.Given as goal

abbrev pub invariant-loop-role : goal.invariant-loop-role
invariant-loop-role l = AreEach (List (List Takeover)) Role (λ role all. AreTakeoversOfEach l.steps role.rules all) l.roles [] l.role-index l.all.items
