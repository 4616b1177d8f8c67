use Rattle.std.proofs.Common.{Some, take}
use Rattle.std.specs.Option.{option_copied}
use Rattle.rbac_paths.specs.SharedWords.{IsWordFor}
use Rattle.rbac_paths.proofs.WordsAdded.{AddsOf}
use Rattle.rbac_paths.proofs.takeover.Takeover.add_named.Given as goal

abbrev pub invariant-loop-name : goal.invariant-loop-name
invariant-loop-name l = AddsOf (λ name w. IsWordFor l.self.over l.self.counts (option_copied l.home) (Some name) w) (take l.name-index l.names) l.initial.words l.words
