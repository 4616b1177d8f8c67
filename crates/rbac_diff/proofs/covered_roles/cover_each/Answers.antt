use Rattle.std.proofs.Common.{◌<◌, length, arith, rules}
use Rattle.rbac_diff.proofs.CoveringRules.{cover_more}
use Rattle.rbac_diff.proofs.covered_roles.cover_each.Goals as goal

pub loop-at-preserved : goal.loop-at-preserved
loop-at-preserved c =
    let mine = c.args.rules.now in
    let others = c.args.others.now in
    let at = c.loop-at.at in
    let within : at < length others = omega arith in
    (c.loop-at.invariant.0, cover_more mine others at c.index-rules-at.result c.index-others-at.result c.loop-at-test.true within c.index-rules-at.is c.index-others-at.is c.loop-at.invariant.1 (c.in_ok-covers_rule.ensures (search rules)))
