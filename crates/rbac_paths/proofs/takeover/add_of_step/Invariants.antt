use Rattle.std.proofs.Common.{◌≡◌, take}
use Rattle.rbac_paths.specs.Rows.{MatchesRow}
use Rattle.rbac_paths.specs.Takeovers.{takeover_of}
use Rattle.rbac_paths.proofs.WordsAdded.{AddsOf}
use Rattle.rbac_paths.proofs.takeover.add_of_step.Given as goal

abbrev pub invariant-loop-row : goal.invariant-loop-row
invariant-loop-row l = AddsOf (λ row t. (takeover_of row ≡ t) × MatchesRow row l.rule) (take l.row-index l.row-items) l.initial.all.items l.all.items
