use Rattle.std.proofs.Common.{take}
use Rattle.rbac_paths.specs.Asked.{AreAskedBy}
use Rattle.rbac_paths.specs.Deciding.{IsLeastTaking}
use Rattle.rbac_paths.specs.Nodes.{NodeView}
use Rattle.rbac_steps.specs.declared.steps.Step.{Step}
use Rattle.rbac_paths.proofs.reason.least_taking.Given as goal

abbrev pub invariant-loop-no : goal.invariant-loop-no
invariant-loop-no l = (step : Step) (y : NodeView) → AreAskedBy step y l.asked → IsLeastTaking l.policy step y (take l.no-index l.numbers) l.least
