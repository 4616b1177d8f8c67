use Rattle.std.proofs.Common.{◌≡◌, ◌↔◌, ◌<◌, [], ℕ, List, Contains, get_or, length}
use Rattle.rbac_paths.specs.Joints.{IsOverOthersAt}
use Rattle.rbac_paths.specs.Takeovers.{HaveTakeovers}
use Rattle.rbac_steps.specs.declared.steps.Step.{Step}
use Rattle.rbac_paths.proofs.graph.few_of_bindings.Given as goal

abbrev pub invariant-loop-numbers : goal.invariant-loop-numbers
invariant-loop-numbers l = (length l.few.items ≡ l.numbers-index)
    × ((steps : List Step) → HaveTakeovers l.policy.held steps l.takeovers → (at n : ℕ) → at < l.numbers-index
    → Contains (get_or l.few.items at []) n ↔ (Contains (get_or l.grants at []) n × IsOverOthersAt l.policy steps n))
