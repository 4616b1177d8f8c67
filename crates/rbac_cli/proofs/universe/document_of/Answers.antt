use Rattle.std.proofs.Common.{◌≤◌, length, arith, refl}
use Rattle.rbac_model.specs.Universes.{most_targets}
use Rattle.rbac_cli.proofs.ManyLemmas.{many_of_each, few_of_each}
use Rattle.rbac_cli.proofs.universe.document_of.Goals as goal

pub returns-then-as_slice-gt-MOST_RESOURCES-clause-fault : goal.returns-then-as_slice-gt-MOST_RESOURCES-clause-fault
returns-then-as_slice-gt-MOST_RESOURCES-clause-fault c = λ differs.
    let once = rw c.in_ok-lists.ensures at c.in_ok-lists-2.ensures in
    (refl, many_of_each c.args.export.now.lists.resources c.in_ok-lists-2.lists.resources once.resources (rw c.as_slice.ensures at c.if-as_slice-gt-MOST_RESOURCES.true))

pub returns-clause-ok : goal.returns-clause-ok
returns-clause-ok c =
    let lists = c.in_ok-lists-2.lists in
    let once = rw c.in_ok-lists.ensures at c.in_ok-lists-2.ensures in
    let short : length lists.resources ≤ most_targets = omega (arith, rw c.as_slice.ensures at c.if-as_slice-gt-MOST_RESOURCES.false) in
    ((lists, once, c.in_ok-text_of.ensures), few_of_each c.args.export.now.lists.resources lists.resources once.resources short)
