use Rattle.std.proofs.Common.{[], List, take}
use Rattle.rbac_paths.specs.SharedWords.{GrantTakesWord}
use Rattle.rbac_paths.specs.Takeovers.{HaveTakeovers}
use Rattle.rbac_steps.specs.declared.steps.Step.{Step}
use Rattle.rbac_paths.proofs.WordsAdded.{AddsOf}
use Rattle.rbac_paths.proofs.words.words_of_grants.Given as goal

abbrev pub invariant-loop-no : goal.invariant-loop-no
invariant-loop-no l = (steps : List Step) → HaveTakeovers l.policy.held steps l.takeovers → AddsOf (λ n w. GrantTakesWord l.policy steps w n) (take l.no-index l.numbers) [] l.words
