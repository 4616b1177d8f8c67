use Rattle.std.proofs.Common.{take}
use Rattle.rbac_paths.specs.SharedWords.{LetsWord}
use Rattle.rbac_paths.proofs.WordsAdded.{AddsOf}
use Rattle.rbac_paths.proofs.words.add_of_takeovers.Given as goal

abbrev pub invariant-loop-takeover : goal.invariant-loop-takeover
invariant-loop-takeover l = AddsOf (λ t w. LetsWord t l.held.home l.held.rule w) (take l.takeover-index l.takeovers) l.initial.words l.words
