use Rattle.std.proofs.Common.{arith}
use Rattle.rbac_matrix.specs.Shown.{line_of}
use Rattle.rbac_matrix.proofs.WalkLemmas.{bound_ends, bound_on, bound_within, cursor_bound, next_in_new, next_in_run, within_new, within_run}
use Rattle.rbac_matrix.proofs.walk.next_bound.Goals as goal
use Rattle.rbac_matrix.proofs.walk.next_bound.Goals.{then-walk+in_ok-found, else-walk}

pub returns-in_err-found-clause-ahead : goal.returns-in_err-found-clause-ahead
returns-in_err-found-clause-ahead c = rw c.from_residual.ensures (λ k a. c.in_err-found.ensures.found k (omega (arith, c.requires.order, a.1)) (cursor_bound c.args.index.now (line_of c.args.line) k a.0))

pub returns-clause-found : goal.returns-clause-found
returns-clause-found c = elim c.if-walk.branch [
  | then-walk+in_ok-found w ↦ next_in_new c.args.index.now (line_of c.args.line) c.args.runs.now c.args.walk.now c.requires c.if-walk.walk w.next_run.new.walk w.in_ok-found.found w.walk-is w.if-walk.true w.in_ok-found.ensures.found
  | else-walk w ↦ next_in_run c.args.index.now (line_of c.args.line) c.args.runs.now c.args.walk.now c.requires c.if-walk.walk w.walk-is (omega (arith, w.if-walk.false))
]

pub returns-clause-within : goal.returns-clause-within
returns-clause-within c = elim c.if-walk.branch [
  | then-walk+in_ok-found w ↦ within_new c.args.index.now (line_of c.args.line) c.args.runs.now c.args.walk.now c.requires c.if-walk.walk w.next_run.new.walk w.in_ok-found.found w.walk-is w.if-walk.true w.in_ok-found.ensures.found
  | else-walk w ↦ within_run c.args.index.now (line_of c.args.line) c.args.runs.now c.args.walk.now c.requires c.if-walk.walk w.walk-is (omega (arith, w.if-walk.false))
]

pub returns-clause-ahead : goal.returns-clause-ahead
returns-clause-ahead c = bound_on c.args.index.now (line_of c.args.line) c.args.walk.now _ _ (returns-clause-found c)

pub returns-clause-number : goal.returns-clause-number
returns-clause-number c = let step = returns-clause-found c in bound_within c.args.index.now (line_of c.args.line) _ step.1

pub returns-clause-ends : goal.returns-clause-ends
returns-clause-ends c = bound_ends c.args.index.now (line_of c.args.line) c.args.walk.now _ _ (returns-clause-found c)
