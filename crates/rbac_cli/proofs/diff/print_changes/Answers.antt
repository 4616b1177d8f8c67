use Rattle.std.proofs.Common.{refl}
use Rattle.rbac_question.specs.declared.command.Action.TheVariants.{Diff}
use Rattle.rbac_cli.specs.Out.{changes_text}
use Rattle.rbac_cli.specs.declared.exports.Exports.TheVariants.{Pair}
use Rattle.rbac_cli.proofs.diff.print_changes.Goals as goal

pub returns : goal.returns
returns g c = λ n change.
    let xs = c.in_ok-changes.changes in
    c.print_lines.ensures (Pair c.args.before.now c.args.after.now) (Diff n change) (changes_text xs) refl
    (xs, c.in_ok-changes.ensures.changes, refl, c.status_of-status.ensures)
