use Rattle.std.proofs.Common.{◌≡◌, ◌⊎◌, ◌↔◌, Contains, take}
use Rattle.rbac_use.specs.LeastRules.{with_words}
use Rattle.rbac_use.specs.declared.grouping.Pair.{Pair}
use Rattle.rbac_use.proofs.least.add_turned.Given as goal

abbrev pub invariant-loop-word : goal.invariant-loop-word
invariant-loop-word l = (x : Pair) → Contains l.pairs.items x
    ↔ (Contains l.initial.pairs.items x ⊎ (Contains (take l.word-index l.group.key.words) x.word × (with_words l.group.key l.group.words ≡ x.key)))
