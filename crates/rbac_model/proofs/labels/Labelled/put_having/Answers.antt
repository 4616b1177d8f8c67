use Rattle.std.proofs.Common.{◌≡◌, ℕ, ◌/◌, ◌%◌, ◌<◌, ◌⊎◌, ◌↔◌, length, ap, refl, arith, subst, inl, inr}
use Rattle.std.specs.Int.{bit_at}
use Rattle.std.specs.Option.{option_map}
use Rattle.std.proofs.lemmas.Option.{slice_get_read}
use Rattle.rbac_model.specs.Graphs.{HasPlace}
use Rattle.rbac_model.specs.Labelled.{LabelEntry}
use Rattle.rbac_model.proofs.LabelBits.{put_none, put_more, put_all}
use Rattle.rbac_model.proofs.labels.Labelled.put_having.Goals as goal

pub loop-at-init : goal.loop-at-init
loop-at-init c = record { put = put_none c.self.inside.entries.items c.label_range-from.result.0 c.args.places.now; within = inr refl }

pub loop-at-preserved : goal.loop-at-preserved
loop-at-preserved c =
    let xs = c.self.inside.entries.items in
    let at = c.loop-at.at in
    let e = c.index-entry.result.now in
    let l : at < length xs = omega (arith, c.label_range-from.ensures.within, c.loop-at-test.true, ap length c.as_slice.ensures.value) in
    let there = slice_get_read xs (length xs) at e refl l c.index-entry.ensures in
    let more : (k : ℕ) → HasPlace c.put.new.self k ↔ (HasPlace c.loop-at.places k ⊎ ((k / 64 ≡ e.place / 64) × (bit_at e.bits (k % 64) ≡ 1))) =
    subst (λ (x : LabelEntry). (k : ℕ) → HasPlace c.put.new.self k ↔ (HasPlace c.loop-at.places k ⊎ ((k / 64 ≡ x.place / 64) × (bit_at x.bits (k % 64) ≡ 1)))) c.entry.view_is c.in_ok-put.ensures in
    record {
      put = put_more xs c.label_range-from.result.0 c.args.places.now c.loop-at.places c.put.new.self at e c.loop-at.auto.at there more c.loop-at.invariant.put;
      within = inl (omega (arith, c.loop-at-test.true));
    }

pub returns : goal.returns
returns c =
    let xs = c.self.inside.entries.items in
    let at = c.loop-at.at in
    let from = c.label_range-from.result.0 in
    let to = c.label_range-from.result.1 in
    rw c.self.view_is at (put_all xs from c.args.places.now c.self.inside.roles.now c.args.key.now (option_map (λ v. v.now) c.args.value) to at c.loop-at.places c.self.invariant.1
    (rw c.as_slice.ensures.value at c.label_range-from.ensures.between)
    (λ j le. (
      λ l. elim c.loop-at.invariant.within [ inl w ↦ omega (arith, l, w) | inr e ↦ absurd (omega (arith, l, le, e)) ],
      λ l. omega (arith, l, c.loop-at-test.false),
    ))
    c.loop-at.invariant.put)
