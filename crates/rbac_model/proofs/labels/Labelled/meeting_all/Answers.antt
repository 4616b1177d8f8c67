use Rattle.std.proofs.Common.{◌≡◌, ◌+◌, ◌++◌, ◌∷◌, [], All, length, ap, arith, take}
use Rattle.std.proofs.lemmas.List.{take_all}
use Rattle.std.proofs.lemmas.List.Elements.{All-nil}
use Rattle.rbac_terms.specs.Selecting.{Meets}
use Rattle.rbac_model.proofs.Stairs.{take_read}
use Rattle.rbac_model.proofs.LabelSets.{with_everyone, with_both, all_push}
use Rattle.rbac_model.proofs.labels.Labelled.meeting_all.Goals as goal

pub loop-requirement-init : goal.loop-requirement-init
loop-requirement-init c = with_everyone c.args.self.now (λ ls. All (λ y. Meets y ls) []) c.in_ok-places.places c.in_ok-places.ensures (λ ls. All-nil (λ y. Meets y ls))

pub loop-requirement-preserved : goal.loop-requirement-preserved
loop-requirement-preserved c =
    let items = c.as_slice-requirement-items.result.now in
    let vs = c.args.requirements.now in
    let i = c.loop-requirement.requirement-index in
    let x = c.requirement-item.result in
    let more : take (i + 1) vs ≡ take i vs ++ x ∷ [] = rw c.as_slice-requirement-items.ensures at (take_read items i x c.loop-requirement-test.true c.requirement-item.is) in
    rw more (with_both c.args.self.now (λ own. All (λ y. Meets y own) (take i vs)) (λ own. Meets x own) (λ own. All (λ y. Meets y own) (take i vs ++ x ∷ []))
    c.loop-requirement.places c.in_ok-meeting.field-0 c.keep.new.self c.keep.ensures c.loop-requirement.invariant c.in_ok-meeting.ensures (λ own. all_push (λ y. Meets y own) (take i vs) x))

pub returns : goal.returns
returns c =
    let all : take c.loop-requirement.requirement-index c.args.requirements.now ≡ c.args.requirements.now =
    take_all c.loop-requirement.requirement-index c.args.requirements.now (omega (arith, c.loop-requirement-test.false, ap length c.as_slice-requirement-items.ensures)) in
    rw all at c.loop-requirement.invariant
