use Rattle.std.proofs.Common.{◌≡◌, ◌≤◌, ◌*◌, ℕ, List, false, length}
use Rattle.std.specs.Io.KnownBytes.{Consumes}
use Rattle.rbac_log.specs.Logs.{most_bytes}
use Rattle.rbac_log.specs.Reading.{IsReadTo}
use Rattle.rbac_log.proofs.reading.read_log.Given as goal

abbrev pub invariant-loop-read : goal.invariant-loop-read
invariant-loop-read g l = record {
  bytes : List ℕ;
  given : Consumes (g.R.Read.remaining l.fn.source.reader) (g.R.Read.remaining l.source.reader) bytes;
  many : l.read ≤ length bytes;
  read : IsReadTo bytes l.fn.log l.tail l.log;
  short : length l.tail.bytes.items ≤ most_bytes;
  few : l.tail.ended ≤ 65536 * l.read;
  well : l.source.has_failed ≡ false;
}
