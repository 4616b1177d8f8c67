use Rattle.std.proofs.Common.{inr, length, arith, ap}
use Rattle.rbac_matrix.proofs.LinesLemmas.{no_namespaces, no_verbs}
use Rattle.rbac_matrix.proofs.line.settled.Goals as goal

pub returns-then-is_empty-clause-settled : goal.returns-then-is_empty-clause-settled
returns-then-is_empty-clause-settled c = inr (no_namespaces c.args.universe.now c.args.at (let n = ap length c.namespaces.ensures.namespaces in grind (arith, n)))

pub returns-then-is_empty-2-clause-settled : goal.returns-then-is_empty-2-clause-settled
returns-then-is_empty-2-clause-settled c = inr (no_verbs c.args.universe.now c.args.at (let v = ap length c.verbs.ensures.verbs in grind (arith, v)))
