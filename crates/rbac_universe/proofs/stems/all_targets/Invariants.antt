use Rattle.std.proofs.Common.{◌≡◌, take}
use Rattle.std.specs.List.{flat_map}
use Rattle.rbac_universe.specs.Stems.{targets_of}
use Rattle.rbac_universe.proofs.stems.all_targets.Given as goal

abbrev pub invariant-loop-stem : goal.invariant-loop-stem
invariant-loop-stem l = l.targets.items ≡ flat_map (targets_of l.names) (take l.stem-index l.stems)
