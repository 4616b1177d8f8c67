use Rattle.std.proofs.Common.{◌↔◌, ◌<◌, ℕ, Contains, take}
use Rattle.rbac_ways.proofs.joining.numbers_below.Given as goal

abbrev pub invariant-loop-number : goal.invariant-loop-number
invariant-loop-number l = (n : ℕ) → Contains l.below.items n ↔ (Contains (take l.number-index l.numbers) n × (n < l.bound))
