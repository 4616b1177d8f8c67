use Rattle.std.proofs.Common.{length, arith, ap}
use Rattle.rbac_matrix.proofs.LinesLemmas.{after_verbs_same}
use Rattle.rbac_matrix.proofs.line.after_verbs.Goals as goal

pub returns-then-verbs-at-clause-same : goal.returns-then-verbs-at-clause-same
returns-then-verbs-at-clause-same c =
    let n = ap length c.namespaces-namespaces.ensures.namespaces in
    let v = ap length c.verbs-verbs.ensures.verbs in
    rw c.of_namespace.ensures (after_verbs_same c.args.universe.now c.args.at.principal c.args.at.namespace c.args.at.verb (omega (arith, n)) (omega (arith, v)))
