use Rattle.rbac_log.specs.Logs.{HasAdded}
use Rattle.rbac_log.proofs.reading.add_requests.Given as goal

abbrev pub invariant-loop-request : goal.invariant-loop-request
invariant-loop-request l = HasAdded l.fn.log l.yielded l.log
