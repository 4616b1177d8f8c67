use Rattle.std.proofs.Common.{◌≡◌, arith, [], ◌++◌, map, drop, Some, sym, ap, ◌∙◌}
use Rattle.std.proofs.lemmas.List.{append-nil}
use Rattle.std.proofs.lemmas.Grind.{common_steps}
use Rattle.serde_json.specs.View.{view}
use Rattle.json_fields.specs.Lists.{all_at, bad_place, given_by}
use Rattle.json_fields.proofs.Texts.{with_prefix}
use Rattle.json_fields.proofs.listed.all_read.Goals as goal

pub returns-in-Err : goal.returns-in-Err
unfolding bad_place given_by
returns-in-Err g c =
    let found = c.requires.1.1.1 _ _ _ c.read.ensures in
    grind (arith, common_steps)

pub loop-place-preserved : goal.loop-place-preserved
unfolding bad_place given_by
loop-place-preserved g c =
    let found = c.requires.1.1.1 _ _ _ c.read.ensures in
    grind (arith, common_steps)

pub returns : goal.returns
unfolding bad_place given_by
returns g c =
    let read = c.loop-place.items.items in
    let none : map view (drop c.loop-place.place c.args.values.now) ≡ [] = ap (map view) {y = []} (grind (arith, common_steps)) in (
      sym c.loop-place.invariant.0 ∙ ap (λ ds. with_prefix read (all_at g.at ds)) none ∙ ap Some (append-nil read),
      sym c.loop-place.invariant.1 ∙ ap (bad_place g.at c.loop-place.place) none,
      sym c.loop-place.invariant.2 ∙ ap (λ ds. read ++ given_by g.at ds) none ∙ append-nil read,
    )
