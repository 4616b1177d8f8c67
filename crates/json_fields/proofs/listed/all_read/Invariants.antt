use Rattle.std.proofs.Common.{◌≡◌, ◌++◌, map, drop}
use Rattle.serde_json.specs.View.{view}
use Rattle.json_fields.specs.Lists.{all_at, bad_place, given_by}
use Rattle.json_fields.proofs.Texts.{with_prefix}
use Rattle.json_fields.proofs.listed.all_read.Given as goal

abbrev pub invariant-loop-place : goal.invariant-loop-place
invariant-loop-place g l =
    (with_prefix l.items.items (all_at g.at (map view (drop l.place l.values))) ≡ all_at g.at (map view l.values))
    × (bad_place g.at l.place (map view (drop l.place l.values)) ≡ bad_place g.at 0 (map view l.values))
    × (l.items.items ++ given_by g.at (map view (drop l.place l.values)) ≡ given_by g.at (map view l.values))
    × goal.F-IsAlwaysCallable g l.read
