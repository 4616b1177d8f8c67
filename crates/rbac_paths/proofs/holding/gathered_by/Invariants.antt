use Rattle.std.proofs.Common.{map}
use Rattle.rbac_paths.proofs.GatheredRoles.{AreSourcesTo}
use Rattle.rbac_paths.proofs.holding.gathered_by.Given as goal

abbrev pub invariant-loop-to : goal.invariant-loop-to
invariant-loop-to l = AreSourcesTo l.policy.held l.role l.to (map (λ s. s.now) l.gathered.items)
