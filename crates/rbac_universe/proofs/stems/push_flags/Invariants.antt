use Rattle.std.proofs.Common.{◌≡◌, ◌++◌, map, take}
use Rattle.rbac_universe.proofs.stems.push_flags.Given as goal

abbrev pub invariant-loop : goal.invariant-loop
invariant-loop l = l.flags.items ≡ l.initial.flags.items ++ map (λ n. l.stem.namespaced) (take l.index l.names)
