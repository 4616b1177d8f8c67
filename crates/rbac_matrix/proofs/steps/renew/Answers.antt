use Rattle.std.proofs.Common.{inl, inr}
use Rattle.rbac_matrix.proofs.steps.renew.Goals as goal

pub returns-then-at-gt0-clause-runs : goal.returns-then-at-gt0-clause-runs
returns-then-at-gt0-clause-runs c = c.requires.verbs c.if-at-gt0.true

pub returns-then-at-gt0-clause-bare : goal.returns-then-at-gt0-clause-bare
returns-then-at-gt0-clause-bare c = c.requires.bare (inr c.if-at-gt0.true)

pub returns-then-serve-clause-runs : goal.returns-then-serve-clause-runs
returns-then-serve-clause-runs c =
    let serve = c.serve.ensures c.if-serve.true in
    c.requires.bare (inl c.if-at-gt0-2.true) serve.0 c.args.line.namespace.now c.args.line.verb.now serve.1

pub returns-then-serve-clause-bare : goal.returns-then-serve-clause-bare
returns-then-serve-clause-bare c = c.requires.bare (inl c.if-at-gt0-2.true)
