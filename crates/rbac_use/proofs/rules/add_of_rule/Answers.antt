use Rattle.std.proofs.lemmas.Bool.{both_ways}
use Rattle.rbac_terms.proofs.Cases.{on_ok}
use Rattle.rbac_use.specs.Rules.{use_of}
use Rattle.rbac_use.proofs.RuleLines.{line_of_rule, lines_by_verbs, no_line_of_rule}
use Rattle.rbac_use.proofs.rules.add_of_rule.Goals as goal

pub returns-then-is_asked : goal.returns-then-is_asked
returns-then-is_asked c =
    on_ok c.add_permissions.result
    (λ more. lines_by_verbs (use_of c.args.used) c.args.found.now.items c.add_permissions.new.found.items (c.is_asked.ensures.0 c.if-is_asked.true) more) c.add_permissions.ensures

pub returns-in_ok-push : goal.returns-in_ok-push
returns-in_ok-push c =
    line_of_rule (use_of c.args.used) c.args.found.now.items c.push.new.self.items (λ w. both_ways _ c.if-is_asked.false (c.is_asked.ensures.1 w)) (c.can_be_used.ensures.0 c.if-can_be_used.true) c.in_ok-push.ensures.items

pub returns-else-can_be_used : goal.returns-else-can_be_used
returns-else-can_be_used c =
    no_line_of_rule (use_of c.args.used) c.args.found.now.items (λ w. both_ways _ c.if-is_asked.false (c.is_asked.ensures.1 w)) (λ w. both_ways _ c.if-can_be_used.false (c.can_be_used.ensures.1 w))
