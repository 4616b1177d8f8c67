use Rattle.std.proofs.Common.{◌≡◌, map, drop}
use Rattle.serde_json.specs.View.{view}
use Rattle.rbac_log.specs.Line.{told_by_items}
use Rattle.rbac_log.specs.Outcome.{after}
use Rattle.rbac_log.proofs.line.told_by_items.Given as goal

abbrev pub invariant-loop-item : goal.invariant-loop-item
invariant-loop-item l = after l.requests.items (told_by_items (map view (drop l.item-index l.items))) ≡ told_by_items (map view l.items)
