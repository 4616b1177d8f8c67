use Rattle.std.proofs.Common.{◌≡◌, ◌≤◌, ◌+◌, ◌++◌, ℕ, List, length}
use Rattle.rbac_diff.specs.Requests.{RequestView}
use Rattle.rbac_log.specs.Logs.{most_bytes}
use Rattle.rbac_log.specs.Reading.{IsReadTo}
use Rattle.rbac_log.proofs.reading.Tail.take.Given as goal

abbrev pub invariant-lines : goal.invariant-lines
invariant-lines l = record {
  seen : List ℕ;
  whole : l.fn.piece ≡ seen ++ l.rest;
  read : (bytes : List ℕ) (start : List RequestView) → IsReadTo bytes start l.fn.self l.fn.log → IsReadTo (bytes ++ seen) start l.self l.log;
  short : length l.self.bytes.items ≤ most_bytes;
  few : l.self.ended ≤ l.fn.self.ended + length seen;
}

abbrev pub decreases-lines : goal.decreases-lines
decreases-lines l = length l.rest
