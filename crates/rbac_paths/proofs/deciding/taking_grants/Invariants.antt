use Rattle.std.proofs.Common.{◌≡◌, List, length}
use Rattle.rbac_paths.specs.Deciding.{IsTakingAt}
use Rattle.rbac_paths.specs.Takeovers.{HaveTakeovers}
use Rattle.rbac_steps.specs.declared.steps.Step.{Step}
use Rattle.rbac_paths.proofs.ByBinding.{AreListedBelow}
use Rattle.rbac_paths.proofs.deciding.taking_grants.Given as goal

abbrev pub invariant-loop-no : goal.invariant-loop-no
invariant-loop-no l = (length l.lists.items ≡ length l.policy.held.bindings)
    × ((steps : List Step) → HaveTakeovers l.policy.held steps l.takeovers → AreListedBelow l.policy (IsTakingAt l.policy steps) l.no l.lists.items)
