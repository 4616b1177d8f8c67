use Rattle.std.proofs.Common.{arith}
use Rattle.std.proofs.lemmas.Bool.{both_ways}
use Rattle.rbac_terms.proofs.Reading.{read_some}
use Rattle.rbac_matrix.specs.Shown.{line_of}
use Rattle.rbac_matrix.proofs.WalkLemmas.{bound_cursor, bound_others, bound_passes, cursor_bound}
use Rattle.rbac_matrix.proofs.walk.next_cursor.Goals as goal

pub returns-then-has_verb-clause-found : goal.returns-then-has_verb-clause-found
returns-then-has_verb-clause-found c =
    let has = c.has_verb.ensures.0 c.if-has_verb.true in (
      bound_cursor c.args.index.now (line_of c.args.line) c.loop-no.walk c.next_bound.new.walk c.in-Some.no c.in-Some.ensures.found has.0 has.1 has.2,
      bound_others c.args.index.now (line_of c.args.line) c.loop-no.walk c.next_bound.new.walk c.in-Some.no c.in-Some.ensures.found has.0 has.1 c.args.walk.now c.loop-no.invariant.ahead,
    )

pub returns-then-has_verb-clause-ends : goal.returns-then-has_verb-clause-ends
returns-then-has_verb-clause-ends c = let ends = c.in-Some.ensures.ends in omega (arith, c.loop-no.invariant.onward)

pub loop-no-preserved : goal.loop-no-preserved
loop-no-preserved c =
    let g = read_some c.args.index.now.grants c.in-Some.no c.in-Some.ensures.number in
    record {
      onward = let step = c.in-Some.ensures.found.0 in omega (arith, c.loop-no.invariant.onward, step.on, step.passed);
      ahead = bound_passes c.args.index.now (line_of c.args.line) c.loop-no.walk c.next_bound.new.walk c.in-Some.no c.in-Some.ensures.found g.0 g.1 c.args.walk.now c.loop-no.invariant.ahead (λ ok. both_ways _ c.if-has_verb.false (c.has_verb.ensures.1 (g.0, g.1, ok)));
      within = c.in-Some.ensures.within;
    }

pub returns-clause-found : goal.returns-clause-found
returns-clause-found c = λ k a. c.in_default.ensures.found k (c.loop-no.invariant.ahead k a) (cursor_bound c.args.index.now (line_of c.args.line) k a.0)
