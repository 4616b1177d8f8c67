use Rattle.std.proofs.Common.{ap, refl, sym, ◌∙◌}
use Rattle.rbac_question.specs.declared.command.Action.TheVariants.{Unused}
use Rattle.rbac_cli.specs.Out.{unused_text, unused_status}
use Rattle.rbac_cli.specs.declared.exports.Exports.TheVariants.{Used}
use Rattle.rbac_cli.proofs.unused.print_unused.Goals as goal

pub returns : goal.returns
returns g c =
    let found = c.in_ok-found.found.items in
    let policy = c.args.export.now.policy in
    c.print_lines.ensures (Used c.args.export.now c.args.log.now) (Unused c.args.skip_system) (unused_text policy found)
    (rw c.policy-policy.ensures (sym (ap (unused_text policy) (c.iter-left.ensures.rest ∙ c.as_slice-found.ensures.value))))
    (found, rw c.policy-policy.ensures at c.in_ok-found.ensures.unused, refl, c.status_of.ensures ∙ ap unused_status c.as_slice-found.ensures.value)
