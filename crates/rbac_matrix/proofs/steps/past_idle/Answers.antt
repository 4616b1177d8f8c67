use Rattle.std.proofs.Common.{◌+◌, ap, arith, inl, inr, length}
use Rattle.std.proofs.lemmas.Bool.{both_ways, cases_eq}
use Rattle.rbac_matrix.specs.Lines.{lines_from, place}
use Rattle.rbac_matrix.specs.Shown.{line_of}
use Rattle.rbac_matrix.specs.declared.line.Place.{Place}
use Rattle.rbac_matrix.proofs.EnumLemmas.{skips_then}
use Rattle.rbac_matrix.proofs.IdleLemmas.{fewer_after_namespace, fewer_after_principal, skips_namespace, skips_principal}
use Rattle.rbac_matrix.proofs.UnnamedLemmas.{begins_after, skips_unnamed}
use Rattle.rbac_matrix.proofs.steps.past_idle.Goals as goal

pub returns-then-not-has_grants-clause-skips : goal.returns-then-not-has_grants-clause-skips
returns-then-not-has_grants-clause-skips c =
    rw c.of_principal.ensures (skips_principal c.args.universe.now c.args.at (line_of c.args.line) c.requires.line c.args.index.now c.requires.policy (λ k named. both_ways _ c.if-not-has_grants.true (c.has_grants.ensures.1 (rw c.subjects-subjects.ensures (k, named)))))

pub returns-then-not-has_grants-clause-on : goal.returns-then-not-has_grants-clause-on
returns-then-not-has_grants-clause-on c = rw c.of_principal.ensures (fewer_after_principal c.args.universe.now c.args.at (line_of c.args.line) c.requires.line)

pub past_unnamed-requires-clause-begins : goal.past_unnamed-requires-clause-begins
past_unnamed-requires-clause-begins c = rw c.of_namespace-next.ensures (begins_after c.args.universe.now c.requires.universe c.args.at (line_of c.args.line) c.requires.line)

pub returns-clause-skips : goal.returns-clause-skips
returns-clause-skips c =
    let p = c.args.index.now in
    let u = c.args.universe.now in
    let at = c.args.at in
    let l = line_of c.args.line in
    let next = place at.principal (at.namespace + 1) 0 in
    skips_then p.held u at next c.past_unnamed.result (skips_namespace u at l c.requires.line p c.requires.policy c.requires.idle) (skips_unnamed p c.requires.policy u l.namespace next c.past_unnamed.result l c.requires.idle (rw c.of_namespace-next.ensures at c.past_unnamed.ensures.passes))

pub returns-clause-on : goal.returns-clause-on
returns-clause-on c =
    let u = c.args.universe.now in
    let at = c.args.at in
    let to = c.past_unnamed.result in
    let next = c.of_namespace-next.result in
    let first = fewer_after_namespace u at (line_of c.args.line) c.requires.line in
    let is = ap (λ (q : Place). length (lines_from u q)) c.of_namespace-next.ensures in
    elim (cases_eq to.namespace next.namespace) [
      | inl same ↦ omega (arith, first, is, ap (λ (q : Place). length (lines_from u q)) (c.past_unnamed.ensures.same same))
      | inr on ↦ omega (arith, first, is, c.past_unnamed.ensures.fewer on)
    ]
