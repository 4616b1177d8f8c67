use Rattle.std.proofs.Common.{◌≡◌, ◌+◌, ◌++◌, ◌∷◌, [], All, length, ap, arith, take}
use Rattle.std.proofs.lemmas.List.{take_all}
use Rattle.std.proofs.lemmas.List.Elements.{All-nil}
use Rattle.rbac_terms.specs.Selecting.{HasLabel}
use Rattle.rbac_model.proofs.Stairs.{take_read}
use Rattle.rbac_model.proofs.LabelSets.{with_everyone, with_both, all_push}
use Rattle.rbac_model.proofs.labels.Labelled.having_all.Goals as goal

pub loop-label-init : goal.loop-label-init
loop-label-init c = with_everyone c.args.self.now (λ ls. All (λ y. HasLabel ls y.0 y.1) []) c.in_ok-places.places c.in_ok-places.ensures (λ ls. All-nil (λ y. HasLabel ls y.0 y.1))

pub loop-label-preserved : goal.loop-label-preserved
loop-label-preserved c =
    let items = c.as_slice-label-items.result.now in
    let vs = c.args.labels.now in
    let i = c.loop-label.label-index in
    let x = c.label-item.result in
    let more : take (i + 1) vs ≡ take i vs ++ x ∷ [] = rw c.as_slice-label-items.ensures at (take_read items i x c.loop-label-test.true c.label-item.is) in
    rw more (with_both c.args.self.now (λ own. All (λ y. HasLabel own y.0 y.1) (take i vs)) (λ own. HasLabel own x.0 x.1) (λ own. All (λ y. HasLabel own y.0 y.1) (take i vs ++ x ∷ []))
    c.loop-label.places c.in_ok-having.field-0 c.keep.new.self c.keep.ensures c.loop-label.invariant c.in_ok-having.ensures (λ own. all_push (λ y. HasLabel own y.0 y.1) (take i vs) x))

pub returns : goal.returns
returns c =
    let all : take c.loop-label.label-index c.args.labels.now ≡ c.args.labels.now =
    take_all c.loop-label.label-index c.args.labels.now (omega (arith, c.loop-label-test.false, ap length c.as_slice-label-items.ensures)) in
    rw all at c.loop-label.invariant
