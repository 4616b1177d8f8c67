use Rattle.std.proofs.Common.{◌≡◌, ◌++◌, take}
use Rattle.std.specs.Option.{option_copied}
use Rattle.rbac_paths.specs.Told.{holdings_at}
use Rattle.rbac_paths.proofs.holding.push_rules.Given as goal

abbrev pub invariant-loop-rule : goal.invariant-loop-rule
invariant-loop-rule l = l.holdings.items ≡ l.initial.holdings.items ++ holdings_at (option_copied l.home) (take l.rule-index l.rule-items)
