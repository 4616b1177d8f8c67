use Rattle.std.proofs.Common.{inl, inr}
use Rattle.rbac_matrix.proofs.StartLemmas.{own_line, own_settled, start_found, start_same}
use Rattle.rbac_matrix.proofs.start.start_at.Goals as goal

pub returns-in-Ok : goal.returns-in-Ok
returns-in-Ok c = record {
  settled = own_settled c.args.universe.now c.args.key.now c.in-Ok.at c.in-Ok.ensures.found;
  start = start_found c.args.universe.now c.args.key.now c.in-Ok.at c.in-Ok.ensures.found c.place_after.result c.place_after.ensures.place;
  line = inl (own_line c.args.universe.now c.args.key.now c.in-Ok.at c.in-Ok.ensures.found);
  few = c.place_after.ensures.few;
}

pub returns-in-Err-clause-start : goal.returns-in-Err-clause-start
returns-in-Err-clause-start c = rw c.line_start.ensures.whole (start_same c.args.universe.now _ c.line_start.result.at c.in-Err.at c.line_start.ensures.same c.in-Err.ensures.gap)

pub returns-in-Err-clause-line : goal.returns-in-Err-clause-line
returns-in-Err-clause-line c = inr (c.in-Err.ensures.absent, c.line_start.ensures.whole)
