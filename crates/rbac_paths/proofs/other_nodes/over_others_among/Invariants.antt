use Rattle.std.proofs.Common.{◌↔◌, ℕ, List, Contains, take}
use Rattle.rbac_paths.specs.Joints.{IsOverOthersAt}
use Rattle.rbac_paths.specs.Takeovers.{HaveTakeovers}
use Rattle.rbac_steps.specs.declared.steps.Step.{Step}
use Rattle.rbac_paths.proofs.other_nodes.over_others_among.Given as goal

abbrev pub invariant-loop-no : goal.invariant-loop-no
invariant-loop-no l = (steps : List Step) → HaveTakeovers l.policy.held steps l.takeovers → (n : ℕ) → Contains l.few n
    ↔ (Contains (take l.no-index l.numbers) n × IsOverOthersAt l.policy steps n)
