use Rattle.std.proofs.Common.{◌≡◌, take}
use Rattle.std.specs.Prelude.{filter}
use Rattle.rbac_question.specs.StepsLines.{names_step}
use Rattle.rbac_question.proofs.steps_line.named_among.Given as goal

abbrev pub invariant-loop-step : goal.invariant-loop-step
invariant-loop-step l = l.named.items ≡ filter (names_step l.text) (take l.step-index l.steps)
