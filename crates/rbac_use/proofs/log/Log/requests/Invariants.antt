use Rattle.std.proofs.Common.{◌≡◌, ◌++◌}
use Rattle.rbac_use.specs.Requests.{log_of}
use Rattle.rbac_use.proofs.log.Log.requests.Given as goal

abbrev pub invariant-loop-entry : goal.invariant-loop-entry
invariant-loop-entry l = log_of l.all.items ++ l.entry-iterator ≡ l.initial.entry-iterator
