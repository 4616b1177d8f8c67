use Rattle.std.proofs.Common.{take}
use Rattle.rbac_paths.specs.Deciding.{GiveHoldings}
use Rattle.rbac_paths.proofs.deciding.given_by.Given as goal

abbrev pub invariant-loop-no : goal.invariant-loop-no
invariant-loop-no l = GiveHoldings l.policy (take l.no-index l.numbers) l.holdings.items
