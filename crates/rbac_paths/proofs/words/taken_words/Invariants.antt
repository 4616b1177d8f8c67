use Rattle.std.proofs.Common.{[], Any, take}
use Rattle.rbac_paths.specs.SharedWords.{StepTakesWord}
use Rattle.rbac_paths.proofs.WordsAdded.{AddsOf}
use Rattle.rbac_paths.proofs.words.taken_words.Given as goal

abbrev pub invariant-loop-held : goal.invariant-loop-held
invariant-loop-held l = AddsOf (λ h w. Any (StepTakesWord h.home h.rule w) l.steps) (take l.held-index l.holdings) [] l.words
