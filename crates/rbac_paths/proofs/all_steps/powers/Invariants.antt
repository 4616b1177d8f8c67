use Rattle.std.proofs.Common.{◌≡◌, ◌⊎◌, take}
use Rattle.rbac_model.specs.Policies.{IsPolicy}
use Rattle.rbac_paths.proofs.AllSteps.{ArePowersTo}
use Rattle.rbac_paths.proofs.all_steps.powers.Given as goal

abbrev pub invariant-loop-step : goal.invariant-loop-step
invariant-loop-step l = ArePowersTo l.policy (take l.step-index l.step-items) l.all.items × ((l.step-index ≡ 0) ⊎ IsPolicy l.policy)
