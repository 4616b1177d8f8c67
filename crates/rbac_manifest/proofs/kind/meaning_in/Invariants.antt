use Rattle.std.proofs.Common.{◌≡◌, map, drop}
use Rattle.rbac_manifest.specs.Kinds.{as_reading, meaning_in}
use Rattle.rbac_manifest.proofs.kind.meaning_in.Given as goal

abbrev pub invariant-loop-row : goal.invariant-loop-row
invariant-loop-row l = meaning_in (map as_reading (drop l.row-index l.rows)) l.version l.kind ≡ meaning_in (map as_reading l.rows) l.version l.kind
