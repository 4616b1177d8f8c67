use Rattle.std.proofs.Common.{◌↔◌, Contains, take}
use Rattle.rbac_terms.specs.Text.{Text}
use Rattle.rbac_ways.proofs.Numbering.{IsInOne}
use Rattle.rbac_ways.proofs.joining.words_of.Given as goal

abbrev pub invariant-loop-listed : goal.invariant-loop-listed
invariant-loop-listed l = (w : Text) → Contains l.words.items w ↔ IsInOne (take l.listed-index l.lists) w
