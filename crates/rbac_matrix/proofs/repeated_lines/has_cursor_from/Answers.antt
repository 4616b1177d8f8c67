use Rattle.std.proofs.Common.{inl, inr, arith}
use Rattle.std.proofs.lemmas.Bool.{both_ways}
use Rattle.rbac_model.specs.Sources.{grant_of}
use Rattle.rbac_matrix.specs.Shown.{line_of}
use Rattle.rbac_matrix.proofs.WalkLemmas.{bound_passes}
use Rattle.rbac_matrix.proofs.repeated_lines.has_cursor_from.Goals as goal

pub loop-no-init : goal.loop-no-init
loop-no-init c =
    let p = c.args.index.now in
    let l = line_of c.args.line in
    record { ahead = λ k from cursor. c.whole_walk-walk.ensures.ahead p l k cursor; within = c.whole_walk-walk.ensures.within p l c.args.runs.now c.requires }

pub loop-no-preserved-then-no-first : goal.loop-no-preserved-then-no-first
loop-no-preserved-then-no-first c = record {
  ahead = λ k from cursor. elim (c.in-Some.ensures.ahead k (c.loop-no.invariant.ahead k from cursor)) [
    | inl same ↦ absurd (omega (arith, same, from, c.if-no-first.true))
    | inr on ↦ on
  ];
  within = c.in-Some.ensures.within;
}

pub loop-no-preserved : goal.loop-no-preserved
loop-no-preserved c = record {
  ahead = λ k from cursor. (cursor, bound_passes c.args.index.now (line_of c.args.line) c.loop-no.walk c.next_bound.new.walk c.in-Some.no c.in-Some.ensures.found (grant_of c.grant.result) c.grant.ensures.grant c.loop-no.walk (λ _ a. a.1) (λ x. both_ways _ c.if-verb_matches.false (c.verb_matches.ensures.1 x)) k (c.loop-no.invariant.ahead k from cursor));
  within = c.in-Some.ensures.within;
}
