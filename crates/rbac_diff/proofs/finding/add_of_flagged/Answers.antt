use Rattle.std.proofs.Common.{◌≡◌, ◌<◌, ℕ, Some, false, length, slice_get, arith, ap, refl, sym, ◌∙◌, subst}
use Rattle.std.proofs.lemmas.Option.{slice_get_read, slice_get-get_or}
use Rattle.rbac_diff.specs.Finding.{FindsGained}
use Rattle.rbac_diff.specs.Listed.{OriginView}
use Rattle.rbac_diff.proofs.Gathering.{gathered_none, gathered_same, gathered_by, unchanged_gains_nothing}
use Rattle.rbac_diff.proofs.finding.add_of_flagged.Goals as goal
use Rattle.rbac_diff.proofs.finding.add_of_flagged.Goals.{then-flags-place+in_ok-origin+in_ok-add_of_binding, else-flags-place}

pub loop-place-init : goal.loop-place-init
loop-place-init c = gathered_none c.args.kind c.args.asked.now c.args.after.now c.args.findings.now

pub add_of_binding-requires : goal.add_of_binding-requires
add_of_binding-requires c =
    let items = c.bindings-bindings.result.now in
    rw (← c.bindings-bindings.ensures.bindings) (slice_get_read items (length items) c.loop-place.place c.index-bindings-place.result refl c.loop-place-test.true c.index-bindings-place.is
    ∙ ap (λ (x : OriginView). Some x.binding) (sym c.in_ok-origin.ensures))

pub loop-place-preserved : goal.loop-place-preserved
loop-place-preserved c =
    let items = c.bindings-bindings.result.now in
    let before = c.args.asked.now in
    let after = c.args.after.now in
    let k = c.loop-place.place in
    let there : slice_get after.held.bindings k ≡ Some c.index-bindings-place.result =
    rw (← c.bindings-bindings.ensures.bindings) (slice_get_read items (length items) k c.index-bindings-place.result refl c.loop-place-test.true c.index-bindings-place.is) in
    let low : k < length c.args.flags.now = omega (arith, c.loop-place-test.true, ap length c.bindings-bindings.ensures.bindings, c.requires.each) in
    elim c.if-flags-place.branch [
      | then-flags-place+in_ok-origin+in_ok-add_of_binding w ↦ rw w.findings-is (gathered_by c.args.kind before after k before _ c.args.findings.now c.loop-place.findings w.add_of_binding.new.findings refl (ap (λ (x : OriginView). x.kind) w.in_ok-origin.ensures) (there ∙ ap (λ (x : OriginView). Some x.binding) (sym w.in_ok-origin.ensures)) c.loop-place.invariant w.in_ok-add_of_binding.ensures.gained)
      | else-flags-place w ↦ rw w.findings-is (gathered_same c.args.kind before after k c.args.findings.now c.loop-place.findings (unchanged_gains_nothing before after k (c.requires.unflagged k (slice_get-get_or c.args.flags.now k false low ∙ ap (λ b. Some b) w.if-flags-place.false))) c.loop-place.invariant)
    ]

pub returns : goal.returns
returns c =
    let all : c.loop-place.place ≡ length c.args.after.now.held.bindings = omega (arith, c.loop-place-test.false, ap length c.bindings-bindings.ensures.bindings, c.loop-place.auto.place-end) in
    subst (λ (n : ℕ). FindsGained c.args.kind c.args.asked.now c.args.after.now n c.args.findings.now c.loop-place.findings) all c.loop-place.invariant
