use Rattle.std.proofs.Common.{◌≡◌, ◌++◌, map, drop}
use Rattle.serde_json.specs.View.{view}
use Rattle.rbac_manifest.specs.Load.{first_refusal, contents_of_items}
use Rattle.rbac_manifest.proofs.whole.items_contents.Given as goal

abbrev pub invariant-loop-place : goal.invariant-loop-place
invariant-loop-place l =
    (first_refusal l.implied l.place (map view (drop l.place l.items)) ≡ first_refusal l.implied 0 (map view l.items))
    × (l.contents.items ++ contents_of_items l.implied (map view (drop l.place l.items)) ≡ contents_of_items l.implied (map view l.items))
