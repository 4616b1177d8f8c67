use Rattle.rbac_paths.specs.Told.{AddsGiven}
use Rattle.rbac_paths.proofs.holding.push_grants.Given as goal

abbrev pub invariant-loop-no : goal.invariant-loop-no
invariant-loop-no l = AddsGiven l.policy l.start l.no l.fn.holdings.items l.holdings.items
