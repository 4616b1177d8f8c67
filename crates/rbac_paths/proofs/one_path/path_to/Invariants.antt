use Rattle.std.proofs.Common.{List, reverse}
use Rattle.std.specs.Option.{option_copied}
use Rattle.std.specs.Slice.Iter.{iter_rest}
use Rattle.rbac_terms.specs.Principals.{Who}
use Rattle.rbac_model.specs.Policies.{PolicyView}
use Rattle.rbac_steps.specs.declared.steps.Step.{Step}
use Rattle.rbac_paths.specs.Nodes.{Somebody}
use Rattle.rbac_paths.specs.Paths.{ArePathsOf}
use Rattle.rbac_paths.proofs.OnePath.{IsWalked}
use Rattle.rbac_paths.proofs.one_path.path_to.Given as goal

abbrev pub invariant-loop-path : goal.invariant-loop-path
invariant-loop-path l =
    (p : PolicyView) (principals : List Who) (steps : List Step) (who : Who) → ArePathsOf p principals steps who l.found
    → IsWalked (Somebody who) l.to (option_copied l.scope) l.found (iter_rest l.path-iterator.iter) (reverse l.chain.items)
