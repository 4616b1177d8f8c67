use Rattle.rbac_ways.specs.Joining.{AreLists, HasNumber}
use Rattle.rbac_ways.proofs.joining.numbers_of_each.Given as goal

abbrev pub invariant-loop-listed : goal.invariant-loop-listed
invariant-loop-listed l = AreLists (HasNumber l.words l.lists) l.listed-index l.numbers.items
