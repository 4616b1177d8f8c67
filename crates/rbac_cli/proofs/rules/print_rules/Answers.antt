use Rattle.std.proofs.Common.{refl, subst}
use Rattle.rbac_terms.specs.Principals.{Who}
use Rattle.rbac_rules.specs.Effective.{AreEffective}
use Rattle.rbac_question.specs.declared.command.Action.TheVariants.{Rules}
use Rattle.rbac_cli.specs.Out.{rules_text}
use Rattle.rbac_cli.specs.declared.exports.Exports.TheVariants.{Single}
use Rattle.rbac_cli.proofs.rules.print_rules.Goals as goal

pub returns : goal.returns
returns g c =
    let l = c.args.export.now in
    let scope = c.args.scope.now in
    let there = c.effective_rules_are_there.ensures l.policy c.in_ok-who.who scope in
    c.print_lines.ensures (Single l) (Rules c.args.principal.now scope) (rules_text there.0)
    (there.0, rw (c.effective_rules-rules.ensures, c.policy.ensures) there.1, refl)
    (there.0, subst (λ (who : Who). AreEffective l.policy who scope there.0) c.in_ok-who.ensures there.1, refl, refl)
