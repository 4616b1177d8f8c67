use Rattle.std.proofs.Common.{◌≡◌, map, take}
use Rattle.std.specs.Option.{option_copied}
use Rattle.rbac_paths.proofs.RoleRules.{holdings_of}
use Rattle.rbac_paths.proofs.holding.of_cluster_role.Given as goal

abbrev pub invariant-loop-source : goal.invariant-loop-source
invariant-loop-source l = l.holdings.items ≡ holdings_of (option_copied l.scope) (map (λ s. s.now) (take l.source-index l.source-items))
