use Rattle.std.proofs.Common.{◌≡◌, ◌∙◌, ap, sym, refl, List, length, slice_get, arith}
use Rattle.std.specs.Prelude.{Some}
use Rattle.std.proofs.lemmas.Option.{slice_get_read}
use Rattle.rbac_terms.specs.declared.matching.Rule.{Rule}
use Rattle.rbac_index.proofs.WrittenLemmas.{has_more, has_all}
use Rattle.rbac_index.proofs.rule_rows.push_row.Goals as goal

pub loop-place-preserved : goal.loop-place-preserved
loop-place-preserved c =
    let rs = c.as_slice-rule-items.result.now in
    let place = c.loop-place.place in
    let read : slice_get c.args.of_row.now place ≡ Some c.rule-item.result = ap (λ (l : List Rule). slice_get l place) (sym c.as_slice-rule-items.ensures) ∙ slice_get_read rs (length rs) place c.rule-item.result refl c.loop-place-test.true c.rule-item.is in
    has_more c.args.rules.now.items c.loop-place.rules.items c.push.new.self.items c.args.row c.args.of_row.now place _ refl refl read c.in_ok-push.ensures.items c.loop-place.invariant

pub returns : goal.returns
returns c =
    let all : length c.args.of_row.now ≡ c.loop-place.place = omega (arith, c.loop-place.auto.place-end, c.loop-place-test.false, ap length c.as_slice-rule-items.ensures) in
    has_all c.args.rules.now.items c.loop-place.rules.items c.args.row c.args.of_row.now c.loop-place.place all c.loop-place.invariant
