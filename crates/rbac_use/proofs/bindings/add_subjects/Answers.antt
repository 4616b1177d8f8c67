use Rattle.std.proofs.Common.{◌≡◌, ◌≤◌, [], ◌∷◌, Option, Some, ap, arith, length, slice_get, subst, sym}
use Rattle.std.proofs.lemmas.Bool.{both_ways}
use Rattle.std.proofs.lemmas.Option.{slice_get_read}
use Rattle.rbac_terms.specs.Text.{Text}
use Rattle.rbac_use.specs.Adding.{AddsLines}
use Rattle.rbac_use.specs.Asked.{IsIdleSubject, IsSubjectLine}
use Rattle.rbac_use.proofs.Exact.{lines_some, lines_start}
use Rattle.rbac_use.proofs.Places.{more_at}
use Rattle.rbac_use.proofs.SubjectLines.{no_subject_line, subject_line, subject_stands, subject_within}
use Rattle.rbac_use.proofs.bindings.add_subjects.Goals as goal
use Rattle.rbac_use.proofs.bindings.add_subjects.Goals.{then-is_idle+in_ok-push, else-is_idle}

pub loop-at-init : goal.loop-at-init
loop-at-init c = lines_start (IsSubjectLine c.args.place c.args.asked.now c.args.binding.now) c.args.found.now.items

pub loop-at-preserved : goal.loop-at-preserved
loop-at-preserved c =
    let place = c.args.place in
    let asked = c.args.asked.now in
    let b = c.args.binding.now in
    let i = c.loop-at.at in
    let s = c.subject-item.result in
    let old = c.loop-at.found.items in
    let there : slice_get b.subjects i ≡ Some s = slice_get_read _ _ _ _ (ap length c.as_slice-subject-items.ensures) c.loop-at-test.true (rw c.as_slice-subject-items.ensures at c.subject-item.is) in
    let of = λ (o : Option Text). IsIdleSubject asked o s in
    let added : AddsLines (IsSubjectLine place asked b i) old c.if-is_idle.found.items = elim c.if-is_idle.branch [
      | then-is_idle+in_ok-push w ↦ rw w.found-is (subject_line place asked b i s there old w.push.new.self.items (subst of c.as_ref-namespace.ensures.value (c.is_idle.ensures.0 w.if-is_idle.true)) w.in_ok-push.ensures.items)
      | else-is_idle w ↦ rw w.found-is (no_subject_line place asked b i s there old (λ h. both_ways _ w.if-is_idle.false (c.is_idle.ensures.1 (subst of (sym c.as_ref-namespace.ensures.value) h))))
    ] in
    more_at (place ∷ 0 ∷ []) (IsSubjectLine place asked b) (subject_stands place asked b) i c.args.found.now.items old c.if-is_idle.found.items c.loop-at.invariant added

pub returns : goal.returns
returns c =
    let b = c.args.binding.now in
    let all : length b.subjects ≤ c.loop-at.at = omega (arith, c.loop-at-test.false, ap length c.as_slice-subject-items.ensures) in
    lines_some (IsSubjectLine c.args.place c.args.asked.now b) (length b.subjects) c.loop-at.at c.args.found.now.items c.loop-at.found.items all (subject_within c.args.place c.args.asked.now b) c.loop-at.invariant
