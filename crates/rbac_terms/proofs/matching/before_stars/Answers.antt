use Rattle.std.proofs.Common.{◌+◌}
use Rattle.rbac_terms.proofs.Texts.{IsBeforeStars-more}
use Rattle.rbac_terms.proofs.matching.before_stars.Goals as goal

pub loop-shorter-preserved : goal.loop-shorter-preserved
loop-shorter-preserved c =
    let k = c.loop-shorter.invariant.0 in
    (k + 1, IsBeforeStars-more c.args.word.now c.loop-shorter.before.now c.in-Some.shorter.now k c.loop-shorter.invariant.1 c.in-Some.ensures)
