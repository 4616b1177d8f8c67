use Rattle.std.proofs.Common.{[], take}
use Rattle.rbac_paths.specs.Takeovers.{HasTakeover}
use Rattle.rbac_paths.proofs.WordsAdded.{AddsOf}
use Rattle.rbac_paths.proofs.takeover.takeovers_of.Given as goal

abbrev pub invariant-loop-step : goal.invariant-loop-step
invariant-loop-step l = AddsOf (λ step t. HasTakeover l.rule t step) (take l.step-index l.steps) [] l.all.items
