use Rattle.std.proofs.Common.{◌≡◌, ◌++◌, ◌∷◌, take}
use Rattle.std.specs.List.{flat_map}
use Rattle.rbac_text.specs.Rule.{comma, item_text}
use Rattle.rbac_text.proofs.rule.put_others.Given as goal

abbrev pub invariant-loop-word : goal.invariant-loop-word
invariant-loop-word l = l.line.items ≡ l.initial.line.items ++ flat_map (λ w. comma ∷ item_text w) (take l.word-index l.words)
