use Rattle.std.proofs.Common.{arith, [], map, sym, ap, ◌∙◌, ◌++◌}
use Rattle.std.proofs.lemmas.Grind.{common_steps}
use Rattle.std.proofs.lemmas.List.{append-nil}
use Rattle.serde_json.specs.View.{view}
use Rattle.rbac_manifest.specs.Load.{first_refusal, contents_of_items}
use Rattle.rbac_manifest.proofs.whole.items_contents.Goals as goal

pub loop-place-preserved : goal.loop-place-preserved
loop-place-preserved c = grind (arith, common_steps)

pub returns : goal.returns
returns c =
    let l = c.loop-place in
    let implied = c.args.implied in (
      sym l.invariant.0 ∙ ap (λ vs. first_refusal implied l.place (map view vs)) {y = []} (grind (arith, common_steps)),
      sym (append-nil l.contents.items) ∙ ap (λ vs. l.contents.items ++ contents_of_items implied (map view vs)) {x = []} (sym (grind (arith, common_steps))) ∙ l.invariant.1,
    )
