use Rattle.std.proofs.Common.{◌∙◌, arith, subst, sym}
use Rattle.rbac_subjects.specs.Keyed.{IsUnderBetween}
use Rattle.rbac_subjects.specs.Least.{LeastView, Takes}
use Rattle.rbac_subjects.proofs.KeyedLemmas.{none_after}
use Rattle.rbac_subjects.proofs.TakingLemmas.{takes_all, takes_more, takes_none, takes_rest}
use Rattle.rbac_subjects.proofs.first_places.take_between.Goals.{then-not-is_before-via-then-not-is_before, then-not-is_before-via-else-not-is_before+then-not-take_in}
use Rattle.rbac_subjects.proofs.first_places.take_between.Goals as goal

pub loop-at-init : goal.loop-at-init
loop-at-init c = record {
  low = (c.first_entry-at.result, c.first_entry-at.ensures.first, omega arith);
  seen = takes_none c.args.entries.now c.requires c.args.key.now c.args.from c.args.to c.first_entry-at.result c.args.places.now c.first_entry-at.ensures.first;
}

pub loop-at-preserved : goal.loop-at-preserved
loop-at-preserved c =
    let low = c.loop-at.invariant.low in
    record {
      low = (low.0, low.1, omega (arith, low.2));
      seen = takes_more c.args.entries.now c.requires c.args.key.now c.args.from c.args.to c.loop-at.at c.index-entries-at.result c.loop-at-test.true c.index-entries-at.is low
          (sym c.is_before.ensures ∙ c.if-not-is_before.false) c.args.places.now c.loop-at.places c.take_in.new.self c.loop-at.invariant.seen c.take_in.ensures.takes;
    }

pub returns-then-not-is_before : goal.returns-then-not-is_before
returns-then-not-is_before c =
    let key = c.args.key.now in
    elim c.then-not-is_before.branch [
      | then-not-is_before-via-then-not-is_before w ↦
          subst (λ (l : LeastView). Takes (IsUnderBetween c.args.entries.now key c.args.from c.args.to) c.args.places.now l) (sym w.places-is)
          (takes_all c.args.entries.now c.requires key c.args.from c.args.to c.loop-at.at c.args.places.now c.loop-at.places
          (none_after c.args.entries.now c.requires key c.args.from c.args.to c.loop-at.at c.index-entries-at.result c.loop-at-test.true c.index-entries-at.is (sym c.is_before.ensures ∙ w.if-not-is_before.true)) c.loop-at.invariant.seen)
      | then-not-is_before-via-else-not-is_before+then-not-take_in w ↦
          subst (λ (l : LeastView). Takes (IsUnderBetween c.args.entries.now key c.args.from c.args.to) c.args.places.now l) (sym w.places-is)
          (takes_rest c.args.entries.now c.requires key c.args.from c.args.to c.loop-at.at c.index-entries-at.result c.loop-at-test.true c.index-entries-at.is c.loop-at.invariant.low
          (sym c.is_before.ensures ∙ w.if-not-is_before.false) c.args.places.now c.loop-at.places w.take_in.new.self c.loop-at.invariant.seen w.take_in.ensures.takes (w.take_in.ensures.past w.if-not-take_in.true))
    ]

pub returns : goal.returns
returns c =
    takes_all c.args.entries.now c.requires c.args.key.now c.args.from c.args.to c.loop-at.at c.args.places.now c.loop-at.places
    (λ n p. (let end = c.loop-at-test.false in omega (arith, end, p.0.1))) c.loop-at.invariant.seen
