use Rattle.std.proofs.Common.{◌≡◌, ◌++◌, map, take}
use Rattle.rbac_terms.specs.Targets.{Resource}
use Rattle.rbac_universe.proofs.stems.push_targets.Given as goal

abbrev pub invariant-loop-name : goal.invariant-loop-name
invariant-loop-name l = l.targets.items ≡ l.initial.targets.items ++ map (λ n. Resource l.stem.group l.stem.text n) (take l.name-index l.names)
