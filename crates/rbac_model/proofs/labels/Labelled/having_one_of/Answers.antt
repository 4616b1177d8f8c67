use Rattle.std.proofs.Common.{◌≡◌, ◌+◌, ◌++◌, ◌∷◌, [], length, ap, arith, take}
use Rattle.std.specs.Prelude.{Some}
use Rattle.std.proofs.lemmas.List.{take_all}
use Rattle.rbac_terms.specs.Selecting.{HasOneOf}
use Rattle.rbac_model.specs.Labelled.{HasSome}
use Rattle.rbac_model.proofs.Stairs.{take_read}
use Rattle.rbac_model.proofs.LabelSets.{with_nobody, with_either, one_of_push, none_one_of}
use Rattle.rbac_model.proofs.labels.Labelled.having_one_of.Goals as goal

pub loop-value-init : goal.loop-value-init
loop-value-init c = rw c.new-places.ensures (with_nobody c.args.self.now (λ own. HasOneOf own c.args.key.now []) (λ ls. none_one_of ls c.args.key.now))

pub loop-value-preserved : goal.loop-value-preserved
loop-value-preserved c =
    let items = c.as_slice-value-items.result.now in
    let vs = c.args.values.now in
    let key = c.args.key.now in
    let i = c.loop-value.value-index in
    let x = c.value-item.result in
    let more : take (i + 1) vs ≡ take i vs ++ x ∷ [] = rw c.as_slice-value-items.ensures at (take_read items i x c.loop-value-test.true c.value-item.is) in
    rw more (with_either c.args.self.now (λ own. HasOneOf own key (take i vs)) (λ own. HasSome own key (Some x)) (λ own. HasOneOf own key (take i vs ++ x ∷ []))
    c.loop-value.places c.put_having.new.places c.in_ok-put_having.ensures c.loop-value.invariant (λ ls. one_of_push ls key (take i vs) x))

pub returns : goal.returns
returns c =
    let all : take c.loop-value.value-index c.args.values.now ≡ c.args.values.now =
    take_all c.loop-value.value-index c.args.values.now (omega (arith, c.loop-value-test.false, ap length c.as_slice-value-items.ensures)) in
    rw all at c.loop-value.invariant
