use Rattle.std.proofs.Common.{◌≡◌, ◌++◌}
use Rattle.rbac_paths.proofs.AllPowers.{powers_in}
use Rattle.rbac_paths.proofs.all_steps.add_step.Given as goal

abbrev pub invariant-loop-power : goal.invariant-loop-power
invariant-loop-power l = l.all.items ++ powers_in l.power-iterator ≡ l.initial.all.items ++ powers_in l.initial.power-iterator
