use Rattle.std.proofs.Common.{◌≡◌, refl, slice_get}
use Rattle.std.specs.Prelude.{Some, option_copied}
use Rattle.std.proofs.lemmas.Option.{slice_get_read}
use Rattle.rbac_matrix.proofs.UnnamedLemmas.{none_passed, passed_more}
use Rattle.rbac_matrix.proofs.unnamed.past_unnamed.Goals as goal

pub loop-namespace-init : goal.loop-namespace-init
loop-namespace-init c = none_passed c.args.index.now c.args.universe.now c.args.line.principal.now c.args.line.namespace.now c.args.at

pub loop-namespace-preserved : goal.loop-namespace-preserved
loop-namespace-preserved c =
    let p = c.args.index.now in
    let u = c.args.universe.now in
    let found = rw c.namespaces-namespaces.ensures.namespaces at c.in-Some.ensures.lookup in
    let there : slice_get u.namespaces c.loop-namespace.past.namespace ≡ Some c.in-Some.namespace.now = slice_get_read _ _ _ _ refl found.3.0 found.1 in
    rw c.of_namespace-past.ensures (passed_more p u c.args.line.principal.now c.args.line.namespace.now c.args.at c.loop-namespace.past c.loop-namespace.invariant c.requires.begins c.in-Some.namespace.now there
    (option_copied c.args.named) c.requires.named (c.is_before.ensures c.if-not-is_before.false))
