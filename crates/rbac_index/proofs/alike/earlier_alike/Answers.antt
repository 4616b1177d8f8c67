use Rattle.rbac_index.proofs.AlikeLemmas.{alike_at}
use Rattle.rbac_index.proofs.alike.earlier_alike.Goals as goal

pub returns-then-is_same_rule : goal.returns-then-is_same_rule
returns-then-is_same_rule c =
    let same = c.is_same_rule.ensures.0 c.if-is_same_rule.true in
    (c.if-first-no.true, alike_at c.args.policy.now c.in_ok-first.first c.args.no c.place.result c.place-place.result same.0 same.1 c.place.ensures.grant c.place-place.ensures.grant)
