use Rattle.std.proofs.Common.{◌↔◌, [], List, Any, Contains, get_or}
use Rattle.rbac_terms.specs.Text.{Text}
use Rattle.rbac_paths.specs.SharedLists.{AreShared}
use Rattle.rbac_paths.specs.SharedWords.{GrantTakesWord}
use Rattle.rbac_paths.specs.Takeovers.{HaveTakeovers}
use Rattle.rbac_steps.specs.declared.steps.Step.{Step}
use Rattle.rbac_paths.proofs.binding_words.words_of_bindings.Given as goal

abbrev pub invariant-loop-place : goal.invariant-loop-place
invariant-loop-place l = (steps : List Step) → HaveTakeovers l.policy.held steps l.takeovers
    → AreShared Text (λ at ws. (w : Text) → Contains ws w ↔ Any (GrantTakesWord l.policy steps w) (get_or l.grants at [])) l.place l.lists.items l.places.items
