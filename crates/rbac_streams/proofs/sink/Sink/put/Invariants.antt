use Rattle.std.proofs.Common.{length, ◌-◌, ◌≡◌, ◌≤◌, take, false}
use Rattle.rbac_streams.specs.Taken.{Took}
use Rattle.rbac_streams.proofs.sink.Sink.put.Given as goal

abbrev pub invariant-loop-at : goal.invariant-loop-at
invariant-loop-at g l = Took g.W.Write.contents l.initial.self l.self (take l.at l.bytes) × (l.at ≤ length l.bytes) × (l.self.has_failed ≡ false)

abbrev pub decreases-loop-at : goal.decreases-loop-at
decreases-loop-at g l = length l.bytes - l.at
