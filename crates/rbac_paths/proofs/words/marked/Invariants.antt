use Rattle.std.proofs.Common.{◌≡◌, ◌∷◌, map, take}
use Rattle.rbac_paths.proofs.words.marked.Given as goal

abbrev pub invariant-loop-mark : goal.invariant-loop-mark
invariant-loop-mark l = l.words ≡ map (λ part. part.0 ∷ part.1.now) (take l.mark-index l.parts)
