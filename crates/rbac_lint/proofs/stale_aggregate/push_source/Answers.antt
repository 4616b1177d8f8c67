use Rattle.std.proofs.Common.{◌∙◌, ap, ◌++◌}
use Rattle.std.proofs.lemmas.Bool.{both_ways}
use Rattle.rbac_terms.proofs.Cases.{on_ok}
use Rattle.rbac_lint.specs.Gathering.{rules_at}
use Rattle.rbac_lint.proofs.StaleRules.{gathered_more, gathered_same, plain_source, not_plain_source}
use Rattle.rbac_lint.proofs.stale_aggregate.push_source.Goals as goal

pub returns-then-is_some : goal.returns-then-is_some
returns-then-is_some c = λ was.
    gathered_same c.args.policy.now.held c.args.place c.args.at c.args.source.now (rules_at c.args.gathered.now.items) c.requires.source
    (λ r here plain to. not_plain_source c.args.source.now c.is_some.result c.is_some.ensures c.if-is_some.true plain) was

pub returns-then-not-reaches : goal.returns-then-not-reaches
returns-then-not-reaches c = λ was.
    gathered_same c.args.policy.now.held c.args.place c.args.at c.args.source.now (rules_at c.args.gathered.now.items) c.requires.source
    (λ r here plain to. both_ways _ c.if-not-reaches.true ((c.reaches.ensures.reaches r here).1 to)) was

pub returns : goal.returns
returns c =
    on_ok c.push_rules.result
    (λ e was. gathered_more c.args.policy.now.held c.args.place c.args.at c.args.source.now c.reaches.result (rules_at c.args.gathered.now.items) (rules_at c.push_rules.new.gathered.items)
    c.requires.source (plain_source c.args.source.now c.is_some.result c.is_some.ensures c.if-is_some.false) c.reaches.ensures.reaches c.if-not-reaches.false was
    (e ∙ ap (λ rules. rules_at c.args.gathered.now.items ++ rules) c.as_slice.ensures))
    c.push_rules.ensures
