use Rattle.std.proofs.Common.{ap, length, arith}
use Rattle.rbac_matrix.specs.Lines.{IsLineAt, line}
use Rattle.rbac_matrix.proofs.LinesLemmas.{line_here, read}
use Rattle.rbac_matrix.proofs.line.line_at.Goals as goal

pub returns : goal.returns
returns c =
    let a = c.in_ok-get.ensures.lookup in
    let b = c.in_ok-get-2.ensures.lookup in
    let d = c.in_ok-get-3.ensures.lookup in
    let place : IsLineAt c.args.universe.now c.args.at (line c.in_ok-get.field-0.now c.in_ok-get-2.field-0.now c.in_ok-get-3.field-0.now) = record {
      principal = read c.principals.result.now c.args.universe.now.principals c.args.at.principal c.in_ok-get.field-0.now c.principals.ensures.principals a.3.0 a.3.1;
      namespace = read c.namespaces.result.now c.args.universe.now.namespaces c.args.at.namespace c.in_ok-get-2.field-0.now c.namespaces.ensures.namespaces b.3.0 b.3.1;
      verb = read c.verbs.result.now c.args.universe.now.verbs c.args.at.verb c.in_ok-get-3.field-0.now c.verbs.ensures.verbs d.3.0 d.3.1;
    } in
    record {
      universe = c.principals.ensures.ordered;
      limits = c.principals.ensures.few;
      few = (
        let n = ap length c.principals.ensures.principals in omega (arith, n, a.3.0, c.verbs.ensures.few.principals),
        let n = ap length c.namespaces.ensures.namespaces in omega (arith, n, b.3.0, c.verbs.ensures.few.namespaces),
        let n = ap length c.verbs.ensures.verbs in omega (arith, n, d.3.0, c.verbs.ensures.few.verbs),
      );
      place = place;
      verb = place.verb;
      line = line_here c.args.universe.now c.args.at _ place;
    }
