use Rattle.std.proofs.Common.{take}
use Rattle.rbac_use.specs.LeastRules.{HasRulesOf}
use Rattle.rbac_use.proofs.least.least_from.Given as goal

abbrev pub invariant-loop-group : goal.invariant-loop-group
invariant-loop-group l = HasRulesOf (take l.group-index l.groups) l.least
