use Rattle.std.proofs.Common.{refl}
use Rattle.rbac_question.specs.declared.command.Action.TheVariants.{WhoCan}
use Rattle.rbac_cli.specs.HolderLines.{joined_lines}
use Rattle.rbac_cli.proofs.HolderLineLemmas.{answered}
use Rattle.rbac_cli.specs.declared.exports.Exports.TheVariants.{Single}
use Rattle.rbac_cli.proofs.who_can.print_holders.Goals as goal

pub returns : goal.returns
returns g c =
    let meant = c.in_ok-meant.meant in
    let options = c.args.options in
    let a = answered c.args.export.now options c.args.question.now meant.target meant.namespace meant.is_outside c.scope_asked-scope.result c.in_ok-holders.holders c.in_ok-members.members.items
    c.memberships.result.now c.catalogue.result.now c.policy-policy.result.now c.policy.result.now
    c.memberships.ensures c.in_ok-members.ensures c.catalogue.ensures c.policy-policy.ensures c.policy.ensures c.in_ok-meant.ensures.meant c.in_ok-meant.ensures.outside c.scope_asked-scope.ensures.outside c.scope_asked-scope.ensures.given
    c.in_ok-holders.ensures.policy (rw c.requested_by-requested.ensures at c.in_ok-holders.ensures.holders) in
    c.print_lines.ensures (Single c.args.export.now) (WhoCan options c.args.question.now) (joined_lines a.0) (a.0, rw (c.iter.ensures.rest, c.as_slice.ensures.value) a.1, refl) a.2
