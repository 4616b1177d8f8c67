use Rattle.rbac_log.proofs.Counting.{in_order, first_fault}
use Rattle.rbac_log.proofs.laws.events_tell_in_order.Goals as goal

pub returns : goal.returns
returns c = record { requests = in_order; fault = first_fault }
