use Rattle.std.proofs.Common.{◌≡◌, take}
use Rattle.rbac_paths.proofs.told.rows_of_steps.Given as goal

abbrev pub invariant-loop-step : goal.invariant-loop-step
invariant-loop-step l = l.all.items ≡ take l.step-index l.steps
