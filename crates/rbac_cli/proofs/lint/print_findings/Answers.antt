use Rattle.std.proofs.Common.{ap, refl, sym, ◌∙◌}
use Rattle.rbac_question.specs.declared.command.Action.TheVariants.{Lint}
use Rattle.rbac_cli.specs.Out.{findings_text, findings_status}
use Rattle.rbac_cli.specs.declared.exports.Exports.TheVariants.{Single}
use Rattle.rbac_cli.proofs.lint.print_findings.Goals as goal

pub returns : goal.returns
returns g c =
    let found = c.in_ok-findings.findings in
    c.print_lines.ensures (Single c.args.export.now) (Lint c.args.only.now c.args.skip_system) (findings_text found) (sym (ap findings_text (c.iter.ensures.rest ∙ c.as_slice-findings.ensures)))
    (found, rw c.wanted_by.ensures at c.in_ok-findings.ensures, refl, c.status_of.ensures ∙ ap findings_status c.as_slice-findings.ensures)
