use Rattle.std.proofs.Common.{◌+◌, ◌<◌, length, arith, ap}
use Rattle.rbac_matrix.proofs.LinesLemmas.{after_namespaces_same, settled_place}
use Rattle.rbac_matrix.proofs.line.after_namespaces.Goals as goal
use Rattle.rbac_matrix.proofs.line.after_namespaces.Goals.{else-at-principals-via-then-at-principals+else-namespaces-at, else-at-principals-via-else-at-principals}

pub returns-then-namespaces-at-clause-same : goal.returns-then-namespaces-at-clause-same
returns-then-namespaces-at-clause-same c =
    let n = ap length c.namespaces-namespaces.ensures.namespaces in
    let p = ap length c.principals-principals.ensures.principals in
    rw c.of_principal.ensures (after_namespaces_same c.args.universe.now c.args.at.principal c.args.at.namespace c.args.at.verb (omega (arith, p)) (omega (arith, n)))

pub returns-then-namespaces-at-clause-settled : goal.returns-then-namespaces-at-clause-settled
returns-then-namespaces-at-clause-settled c = λ n v. rw c.of_principal.ensures (settled_place c.args.universe.now (c.args.at.principal + 1) 0 0 (λ lt. (n, v)))

pub returns-clause-settled : goal.returns-clause-settled
returns-clause-settled c = λ n v. settled_place c.args.universe.now c.args.at.principal c.args.at.namespace c.args.at.verb (λ lt.
    let names = ap length c.namespaces-namespaces.ensures.namespaces in
    let who = ap length c.principals-principals.ensures.principals in
    elim c.else-at-principals.branch [
      | else-at-principals-via-then-at-principals+else-namespaces-at w ↦
          let within : c.args.at.namespace < length c.args.universe.now.namespaces = omega (arith, names, w.if-namespaces-at.false) in
          (within, c.requires within)
      | else-at-principals-via-else-at-principals w ↦ absurd (omega (arith, who, w.if-at-principals.false))
    ])
