use Rattle.std.proofs.Common.{◌≡◌, ◌+◌, ◌++◌, ◌∷◌, [], List, Option, take, arith, ap, sym, ◌∙◌, subst}
use Rattle.std.specs.Option.{option_copied}
use Rattle.std.proofs.lemmas.List.{take_all}
use Rattle.rbac_terms.specs.Text.{Text}
use Rattle.rbac_terms.specs.declared.granting.Binding.{Binding}
use Rattle.rbac_terms.specs.declared.granting.Subject.{Subject}
use Rattle.rbac_model.proofs.Stairs.{take_read}
use Rattle.rbac_diff.specs.Finding.{Finds, IsGainedAt}
use Rattle.rbac_diff.proofs.Bindings.{IsByPrincipal, IsBySubjects, subjects_none, subjects_nobody, subjects_more, gained_by_subjects}
use Rattle.rbac_diff.proofs.Searching.{finds_same}
use Rattle.rbac_diff.proofs.finding.add_of_binding.Goals as goal
use Rattle.rbac_diff.proofs.finding.add_of_binding.Goals.{in-Some+in_ok-add_of_principal, in_default}

pub loop-subject-init : goal.loop-subject-init
loop-subject-init c = subjects_none c.args.asked.now c.args.after.now c.args.place (option_copied c.as_ref-namespace.result) c.args.origin.now c.args.findings.now

pub loop-subject-preserved : goal.loop-subject-preserved
loop-subject-preserved c =
    let before = c.args.asked.now in
    let after = c.args.after.now in
    let own = option_copied c.as_ref-namespace.result in
    let items = c.as_slice-subject-items.result.now in
    let i = c.loop-subject.subject-index in
    let s = c.subject-item.result in
    let done = take i items in
    let x = c.args.origin.now in
    let named : option_copied c.as_ref-namespace.result ≡ x.binding.namespace = c.as_ref-namespace.ensures.value ∙ ap (λ (b : Binding). b.namespace) c.binding-binding.ensures in
    let more : take (i + 1) items ≡ take i items ++ s ∷ [] = take_read items i s c.loop-subject-test.true c.subject-item.is in
    rw more (elim c.match-branch-2.branch [
      | in-Some+in_ok-add_of_principal w ↦ (let who = w.in-Some.principal in
          let found : Finds (IsByPrincipal before after c.args.place own x who) x c.loop-subject.findings w.add_of_principal.new.findings =
          subst (λ (o : Option Text). Finds (IsByPrincipal before after c.args.place o x who) x c.loop-subject.findings w.add_of_principal.new.findings) (sym named) w.in_ok-add_of_principal.ensures in
          rw w.findings-is (subjects_more before after c.args.place own x s done who c.args.findings.now c.loop-subject.findings w.add_of_principal.new.findings (sym c.in_ok-principal.ensures ∙ w.in-Some.is) c.loop-subject.invariant found))
      | in_default w ↦ (rw w.findings-is (subjects_nobody before after c.args.place own x s done c.args.findings.now c.loop-subject.findings (sym c.in_ok-principal.ensures ∙ w.in_default.is) c.loop-subject.invariant))
    ])

pub returns : goal.returns
returns c =
    let b = c.args.origin.now.binding in
    let is : c.binding-binding.result.now ≡ b = c.binding-binding.ensures in
    let named : option_copied c.as_ref-namespace.result ≡ b.namespace = c.as_ref-namespace.ensures.value ∙ ap (λ (b : Binding). b.namespace) is in
    let before = c.args.asked.now in
    let after = c.args.after.now in
    let x = c.args.origin.now in
    let all : take c.loop-subject.subject-index c.as_slice-subject-items.result.now ≡ b.subjects = take_all c.loop-subject.subject-index c.as_slice-subject-items.result.now (omega arith) ∙ c.as_slice-subject-items.ensures ∙ ap (λ (b : Binding). b.subjects) is in
    record {
      gained = finds_same (IsBySubjects before after c.args.place b.namespace x b.subjects) (IsGainedAt before after c.args.place) x c.args.findings.now c.loop-subject.findings (gained_by_subjects before after c.args.place b x c.requires)
          (subst (λ (own : Option Text). Finds (IsBySubjects before after c.args.place own x b.subjects) x c.args.findings.now c.loop-subject.findings) named
          (subst (λ (xs : List Subject). Finds (IsBySubjects before after c.args.place (option_copied c.as_ref-namespace.result) x xs) x c.args.findings.now c.loop-subject.findings) all c.loop-subject.invariant));
    }
