use Rattle.std.proofs.Common.{◌<◌, length, arith, sym}
use Rattle.rbac_diff.proofs.standing.first_covering.Goals as goal

pub returns-then-branch : goal.returns-then-branch
returns-then-branch c =
    let within : c.loop-at.at < length c.args.rules.now = omega (arith, c.loop-at-test.true, c.min-at-end.ensures) in
    (within, (c.loop-at.at, c.index-rules-at.result, within, sym c.index-rules-at.is, c.in_ok-covers_rule.ensures c.if-branch.true))
