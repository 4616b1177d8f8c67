use Rattle.std.proofs.Common.{◌≡◌, ◌∙◌, List, slice_get, Some, sym, ap, subst, arith, rules, tests}
use Rattle.std.proofs.lemmas.List.{take_all}
use Rattle.std.proofs.lemmas.Option.{slice_get-get_or}
use Rattle.rbac_terms.specs.declared.granting.Subject.{Subject}
use Rattle.rbac_diff.specs.Unchanged.{AreAmong}
use Rattle.rbac_diff.proofs.CoveredGrants.{among_more}
use Rattle.rbac_diff.proofs.subjects.are_among_in_order.Goals as goal
use Rattle.rbac_diff.proofs.subjects.are_among_in_order.Goals.{then-loop-at-test+else-not-same_subject, else-loop-at-test}

pub loop-subject-preserved : goal.loop-subject-preserved
loop-subject-preserved c =
    let subjects = c.args.subjects.now in
    let others = c.args.others.now in
    elim c.loop-at-test.branch [
      | then-loop-at-test+else-not-same_subject w ↦ (let y = w.index-others-at.result in
          let there : slice_get others c.loop-at.at ≡ Some y = slice_get-get_or others c.loop-at.at y w.loop-at-test.true ∙ ap (λ (s : Subject). Some s) (sym w.index-others-at.is) in
          let same : y ≡ c.subject-item.result = w.same_subject.ensures.0 (search (rules, tests)) in
          among_more subjects others c.loop-subject.subject-index c.loop-at.at c.subject-item.result y c.loop-subject-test.true c.subject-item.is c.loop-at.invariant there same)
      | else-loop-at-test w ↦ absurd (omega (arith, w.loop-at-test.false, c.if-at-others.false))
    ]

pub returns : goal.returns
returns c = λ t. subst (λ (xs : List Subject). AreAmong xs c.args.others.now) (take_all c.loop-subject.subject-index c.args.subjects.now (omega (arith, c.loop-subject-test.false))) c.loop-subject.invariant
