use Rattle.std.proofs.Common.{◌≡◌, ◌∙◌, ◌<◌, ◌≤◌, ap, sym, refl, length, slice_get, arith, get_or, false, true}
use Rattle.std.specs.Prelude.{Some}
use Rattle.std.proofs.lemmas.List.{get_or_default}
use Rattle.std.proofs.lemmas.Option.{slice_get_read, slice_get_within}
use Rattle.rbac_subjects.proofs.PrincipalLemmas.{found_all, found_listed, found_more, found_same}
use Rattle.rbac_subjects.proofs.subject_principals.principals_of.Goals as goal
use Rattle.rbac_subjects.proofs.subject_principals.principals_of.Goals.{then-not-index+in_ok-put_principals, else-not-index}

pub marks_of_listed-requires : goal.marks_of_listed-requires
marks_of_listed-requires c = λ k d lt.
    let x = get_or c.args.entries.now k d in
    let keyed = ((c.requires.exact x).0 (k, lt, get_or_default c.args.entries.now k x d lt)).1 in
    let within = slice_get_within c.args.policy.now.held.bindings x.place keyed.0 keyed.1 in
    omega (arith, within, ap length c.bindings-bindings.ensures.bindings)

pub loop-place-init : goal.loop-place-init
loop-place-init c = found_listed c.args.entries.now c.args.policy.now.held.bindings c.in_ok-marks.marks.items c.in_ok-found.found.items c.in_ok-found.ensures

pub loop-place-preserved : goal.loop-place-preserved
loop-place-preserved c =
    let bindings = c.args.policy.now.held.bindings in
    let items = c.bindings-bindings.result.now in
    let place = c.loop-place.place in
    let b = c.index-bindings-place.result in
    let marks = c.in_ok-marks.marks.items in
    let there : slice_get bindings place ≡ Some b = rw (← c.bindings-bindings.ensures.bindings) (slice_get_read items (length items) place b refl c.loop-place-test.true c.index-bindings-place.is) in
    let fits : place < length marks = omega (arith, c.loop-place-test.true, c.in_ok-marks.ensures.len) in
    let mark : get_or marks place false ≡ c.index.result.now = get_or_default marks place false c.index.result.now fits ∙ sym c.index.ensures in
    elim c.if-not-index.branch [
      | then-not-index+in_ok-put_principals w ↦
          rw w.found-is (rw w.in_ok-put_principals.ensures (found_more c.args.entries.now bindings marks place b there c.loop-place.found.items c.loop-place.invariant (λ is. (let both : false ≡ true = sym w.if-not-index.true ∙ sym mark ∙ is in cc))))
      | else-not-index w ↦
          rw w.found-is (found_same c.args.entries.now bindings marks place b there c.loop-place.found.items c.loop-place.invariant (mark ∙ w.if-not-index.false))
    ]

pub returns : goal.returns
returns c =
    let p = c.args.policy.now in
    let all : length p.held.bindings ≤ c.loop-place.place = omega (arith, c.loop-place-test.false, ap length c.bindings-bindings.ensures.bindings) in
    found_all p c.args.entries.now c.requires c.in_ok-marks.marks.items c.loop-place.place c.loop-place.found.items all c.in_ok-marks.ensures.marks c.loop-place.invariant
