use Rattle.rbac_matrix.specs.Shown.{line_of}
use Rattle.rbac_matrix.proofs.SeatLemmas.{Costs-none}
use Rattle.rbac_matrix.proofs.LineLemmas.{are_real}
use Rattle.rbac_matrix.proofs.VerbLemmas.{runs_here}
use Rattle.rbac_matrix.proofs.TouchLemmas.{metered_start}
use Rattle.rbac_matrix.proofs.BlockLemmas.{others_of}
use Rattle.rbac_matrix.proofs.BeginLemmas.{sought_filled}
use Rattle.rbac_matrix.proofs.start.seat_start.Goals as goal

pub returns-in_default-clause-metered : goal.returns-in_default-clause-metered
returns-in_default-clause-metered c = rw c.requires.fresh (metered_start c.args.basis.index.now c.args.basis.universe.now c.args.start.at 0 c.args.seats.now c.args.seats.now 0 c.requires.empty (Costs-none c.args.seats.now 0))

pub seat_line-filled-requires-clause-real : goal.seat_line-filled-requires-clause-real
seat_line-filled-requires-clause-real c = are_real c.args.basis.index.now c.args.basis.universe.now c.args.basis.reaches.now (line_of c.in-Some.line) c.requires.policy c.line_at.ensures.universe c.requires.reaches c.line_at.ensures.limits.targets

pub returns-then-start-eq0-clause-metered : goal.returns-then-start-eq0-clause-metered
returns-then-start-eq0-clause-metered c =
    let costs = rw c.requires.fresh at (c.seat_line-filled.ensures.started c.if-start-eq0.true) in
    metered_start c.args.basis.index.now c.args.basis.universe.now c.args.start.at 0 c.seat_line-filled.new.seats c.args.seats.now c.seat_line-filled.new.meter c.requires.empty costs

pub returns-clause-metered : goal.returns-clause-metered
returns-clause-metered c =
    let costs = rw c.requires.fresh at c.seat_line-filled.ensures.sought in
    metered_start c.args.basis.index.now c.args.basis.universe.now c.args.start.at c.seat_line-filled.result c.seat_line-filled.new.seats c.args.seats.now c.seat_line-filled.new.meter c.requires.empty costs

pub returns-clause-sought : goal.returns-clause-sought
returns-clause-sought c =
    rw c.seat_line-filled.ensures.filled (sought_filled c.args.basis.index.now c.args.basis.universe.now c.args.basis.reaches.now c.args.start.at c.args.start.from 0 c.seat_line-filled.new.seats (line_of c.in-Some.line) _ c.in-Some.ensures.line c.seat_line-filled.ensures.seated)

pub fill-requires-clause-others : goal.fill-requires-clause-others
fill-requires-clause-others c = others_of c.args.basis.index.now (line_of c.in-Some.line) c.args.basis.reaches.now c.args.start.from 0 c.seat_line-filled.new.seats c.seat_line-filled.ensures.seated

pub returns-then-start-eq0-clause-runs : goal.returns-then-start-eq0-clause-runs
returns-then-start-eq0-clause-runs c = runs_here c.args.basis.index.now c.args.basis.universe.now c.args.start.at (line_of c.in-Some.line) _ c.of-kept.result c.in-Some.ensures.line c.of-kept.ensures.runs c.of-kept.ensures.bare

pub returns-clause-runs : goal.returns-clause-runs
returns-clause-runs c = runs_here c.args.basis.index.now c.args.basis.universe.now c.args.start.at (line_of c.in-Some.line) _ c.of-kept.result c.in-Some.ensures.line c.of-kept.ensures.runs c.of-kept.ensures.bare
