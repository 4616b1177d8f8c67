use Rattle.std.proofs.Common.{[], List}
use Rattle.rbac_terms.specs.declared.matching.Rule.{Rule}
use Rattle.rbac_paths.specs.Takeovers.{AreTakeovers}
use Rattle.rbac_paths.specs.declared.takeover.Takeover.{Takeover}
use Rattle.rbac_paths.proofs.RuleTakeovers.{AreEach}
use Rattle.rbac_paths.proofs.rule_takeovers.of_each.Given as goal

abbrev pub invariant-loop-rule : goal.invariant-loop-rule
invariant-loop-rule l = AreEach (List Takeover) Rule (λ rule ts. AreTakeovers l.steps rule ts) l.rules [] l.rule-index l.all.items
