use Rattle.std.proofs.Common.{◌≡◌, map, drop}
use Rattle.std.specs.List.{list_any}
use Rattle.rbac_manifest.specs.Kinds.{as_reading, asks_version}
use Rattle.rbac_manifest.proofs.kind.some_asks_version.Given as goal

abbrev pub invariant-loop-row : goal.invariant-loop-row
invariant-loop-row l = list_any (asks_version l.kind) (map as_reading (drop l.row-index l.rows)) ≡ list_any (asks_version l.kind) (map as_reading l.rows)
