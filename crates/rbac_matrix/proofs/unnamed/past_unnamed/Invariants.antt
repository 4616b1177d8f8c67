use Rattle.std.proofs.Common.{◌-◌, length}
use Rattle.rbac_matrix.proofs.UnnamedLemmas.{PassesNamespaces}
use Rattle.rbac_matrix.proofs.unnamed.past_unnamed.Given as goal

abbrev pub invariant-loop-namespace : goal.invariant-loop-namespace
invariant-loop-namespace l = PassesNamespaces l.index l.universe l.line.principal.now l.line.namespace.now l.fn.at l.past

abbrev pub decreases-loop-namespace : goal.decreases-loop-namespace
decreases-loop-namespace l = length l.universe.namespaces - l.past.namespace
