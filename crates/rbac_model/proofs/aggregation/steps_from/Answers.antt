use Rattle.rbac_model.proofs.LabelSteps.{row_of}
use Rattle.rbac_model.proofs.aggregation.steps_from.Goals as goal

pub returns : goal.returns
returns c =
    row_of c.args.objects.now c.requires.held c.args.role.now c.args.at c.in-Some.selectors c.in_ok-row.row c.insert.new.self c.remove.new.self c.requires.at
    c.in-Some.is (rw c.requires.labelled at c.in_ok-row.ensures) (rw c.new-own.ensures at c.in_ok-insert.ensures) c.remove.ensures
