use Rattle.std.proofs.Common.{◌≡◌, ◌≢◌, [], arith, ap, length, inl, inr}
use Rattle.std.proofs.lemmas.Bool.{both_ways}
use Rattle.rbac_terms.specs.Principals.{Who}
use Rattle.rbac_terms.specs.Text.{Text}
use Rattle.rbac_model.specs.Policies.{PolicyView}
use Rattle.rbac_model.specs.Universes.{UniverseView}
use Rattle.rbac_matrix.specs.RepeatedLines.{PassesRepeated}
use Rattle.rbac_matrix.specs.Unnamed.{PassesUnnamed}
use Rattle.rbac_matrix.specs.Lines.{IsMoved, lines_from}
use Rattle.rbac_matrix.specs.declared.line.Place.{Place}
use Rattle.rbac_matrix.specs.Shown.{line_of}
use Rattle.rbac_matrix.proofs.RepeatedLemmas.{repeated_from, repeated_none, repeated_then}
use Rattle.rbac_matrix.proofs.UnnamedLemmas.{begins_at}
use Rattle.rbac_matrix.proofs.repeated_lines.past_repeated.Goals as goal

pub loop-line-smaller : goal.loop-line-smaller
loop-line-smaller c =
    let fewer = c.past_unnamed-past.ensures.fewer c.if-past-at.false in
    omega (arith, fewer, ap length c.settled-at-in-Some.ensures.same)

first_verb : (at to : Place) → at.verb ≡ 0 → IsMoved at to → to.verb ≡ 0
first_verb at to e (inl same) = rw same e
first_verb at to e (inr moved) = moved.0

-- the lines of namespaces where no RoleBinding names the principal are passed
onward : (p : PolicyView) (u : UniverseView) (first at past to : Place) (who : Who) (namespace : Text) → namespace ≢ [] → PassesRepeated p u first at → PassesUnnamed p u who namespace at past → lines_from u to ≡ lines_from u past → PassesRepeated p u first to
onward p u first at past to who namespace some before unnamed same = repeated_then p u first at to before (repeated_then p u at past to (repeated_from p u who namespace at past some unnamed) (repeated_none p u past to same))

pub returns-then-is_named-clause-passes : goal.returns-then-is_named-clause-passes
returns-then-is_named-clause-passes c =
    let l = line_of c.in-Some.line in
    onward c.args.index.now c.args.universe.now c.args.at c.loop-line.at c.past_unnamed-past.result c.settled-at-in-Some.result l.who l.namespace (λ none. both_ways _ c.if-is_empty.false (c.is_empty.ensures.1 none)) c.loop-line.invariant.passes c.past_unnamed-past.ensures.passes c.settled-at-in-Some.ensures.same

pub loop-line-preserved : goal.loop-line-preserved
loop-line-preserved c =
    let p = c.args.index.now in
    let u = c.args.universe.now in
    let past = c.past_unnamed-past.result in
    let l = line_of c.in-Some.line in
    let to = c.settled-at-in-Some.result in
    let first : past.verb ≡ 0 = elim c.past_unnamed-past.ensures.moved [ inl same ↦ absurd (c.if-past-at.false (ap (λ (at : Place). at.namespace) same)) | inr verb ↦ verb ] in
    record {
      settled = c.settled-at-in-Some.ensures.settled;
      passes = onward p u c.args.at c.loop-line.at past to l.who l.namespace (λ none. both_ways _ c.if-is_empty.false (c.is_empty.ensures.1 none)) c.loop-line.invariant.passes c.past_unnamed-past.ensures.passes c.settled-at-in-Some.ensures.same;
      moved = inr (first_verb past to first c.settled-at-in-Some.ensures.moved);
    }

pub past_unnamed-past-requires-clause-begins : goal.past_unnamed-past-requires-clause-begins
past_unnamed-past-requires-clause-begins c = begins_at c.args.universe.now c.in-Some.ensures.universe c.loop-line.at (line_of c.in-Some.line) c.in-Some.ensures.place
