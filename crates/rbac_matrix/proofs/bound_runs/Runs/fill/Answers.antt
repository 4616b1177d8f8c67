use Rattle.rbac_matrix.specs.Shown.{line_of}
use Rattle.rbac_matrix.proofs.WalkLemmas.{serve_bare}
use Rattle.rbac_matrix.proofs.bound_runs.Runs.fill.Goals as goal

pub fill_verbs-requires-clause-told : goal.fill_verbs-requires-clause-told
fill_verbs-requires-clause-told c = rw c.fill_runs.ensures.grants c.requires

pub returns-clause-runs : goal.returns-clause-runs
returns-clause-runs c = (rw c.fill_verbs.ensures.same c.fill_runs.ensures.runs, c.fill_verbs.ensures.verbs, c.fill_verbs.ensures.told)

pub returns-clause-bare : goal.returns-clause-bare
returns-clause-bare c =
    serve_bare c.args.index.now c.args.universe.now c.fill_runs.ensures.policy (line_of c.args.line) c.fill_verbs.new.self
    (rw c.fill_verbs.ensures.same c.fill_runs.ensures.bare)
    (rw c.fill_verbs.ensures.same c.fill_runs.ensures.runs, c.fill_verbs.ensures.verbs, c.fill_verbs.ensures.told)
