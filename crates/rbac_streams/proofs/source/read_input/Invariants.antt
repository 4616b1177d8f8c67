use Rattle.std.proofs.Common.{◌≡◌, ◌+◌, ◌-◌, ◌≤◌, false, vec_len}
use Rattle.std.specs.Io.KnownBytes.{Consumes}
use Rattle.rbac_streams.proofs.source.read_input.Given as goal

abbrev pub invariant-whole : goal.invariant-whole
invariant-whole g l = record {
  given : Consumes (g.R.Read.remaining l.initial.source.reader) (g.R.Read.remaining l.source.reader) l.bytes.items;
  short : vec_len l.bytes ≤ 67108864;
  reads : l.source.reads ≤ l.initial.source.reads + vec_len l.bytes;
  well : l.source.has_failed ≡ false;
}

abbrev pub decreases-whole : goal.decreases-whole
decreases-whole g l = 67108865 - vec_len l.bytes
