use Rattle.std.proofs.lemmas.Bool.{both_ways}
use Rattle.rbac_lint.proofs.StaleRules.{same_rules_from, same_rules_gathered, same_rules_written}
use Rattle.rbac_lint.proofs.rule_set.hold_the_same.Goals as goal

pub returns-then-each_is_in : goal.returns-then-each_is_in
returns-then-each_is_in c =
    let ws = c.args.written.now in
    let gs = c.args.gathered.now in
    let these = c.args.these.now in
    let those = c.args.those.now in (
      λ t. same_rules_from ws gs these those c.requires.written c.requires.gathered (c.each_is_in.ensures.0 c.if-each_is_in.true) (c.each_is_in-then-each_is_in.ensures.0 t),
      λ s. c.each_is_in-then-each_is_in.ensures.1 (same_rules_written ws gs these c.requires.written s),
    )

pub returns-else-each_is_in : goal.returns-else-each_is_in
returns-else-each_is_in c =
    (λ t. cc, λ s. absurd (both_ways _ c.if-each_is_in.false (c.each_is_in.ensures.1 (same_rules_gathered c.args.written.now c.args.gathered.now c.args.those.now c.requires.gathered s))))
