use Rattle.rbac_log.proofs.Counting.{received, forbidden, unauthorized}
use Rattle.rbac_log.proofs.laws.what_was_not_allowed_tells_nothing.Goals as goal

pub returns : goal.returns
returns c = record { received = received; forbidden = forbidden; unauthorized = unauthorized }
