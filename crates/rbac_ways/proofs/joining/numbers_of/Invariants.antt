use Rattle.std.proofs.Common.{◌↔◌, ℕ, Contains, take}
use Rattle.rbac_ways.specs.Joining.{IsNumberOf}
use Rattle.rbac_ways.proofs.joining.numbers_of.Given as goal

abbrev pub invariant-loop-word : goal.invariant-loop-word
invariant-loop-word l = (number : ℕ) → Contains l.numbers.items number ↔ IsNumberOf l.words (take l.word-index l.word-items) number
