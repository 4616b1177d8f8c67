use Rattle.std.proofs.Common.{◌≡◌, ◌∙◌, ◌++◌, ap, refl, []}
use Rattle.rbac_terms.specs.Text.{Text}
use Rattle.rbac_rules.specs.Left.{rule_shown}
use Rattle.rbac_rules.proofs.RuleLists.{one_list}
use Rattle.rbac_cli.specs.Out.{effective_line, rules_text}
use Rattle.rbac_cli.proofs.rules.EffectiveRulesLines.put_next.Goals as goal

pub returns-in_default : goal.returns-in_default
returns-in_default c text (xs, are, e) =
    let rules = c.args.self.now in
    e ∙ ap rules_text (one_list rules.who rules.scope rules.grants xs [] are c.in_default.ensures.steps.0)

pub returns : goal.returns
returns c =
    let taken = c.in-Some.ensures.steps in
    let line : c.put_grant.new.line.items ≡ effective_line (rule_shown c.in-Some.rule) = c.in_ok-put_grant.ensures ∙ ap (λ (t : Text). t ++ effective_line (rule_shown c.in-Some.rule)) c.requires.empty in
    rw line (tt, taken.fewer, λ text (xs, are, e). let next = (taken.left xs).0 are in (rules_text next.0, e ∙ ap rules_text next.1, (next.0, next.2, refl)))
