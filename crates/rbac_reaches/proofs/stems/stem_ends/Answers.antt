use Rattle.std.proofs.Common.{sym, subst}
use Rattle.rbac_reaches.specs.Matched.{AreStemEnds}
use Rattle.rbac_reaches.proofs.StemLemmas.{stems_push}
use Rattle.rbac_reaches.proofs.stems.stem_ends.Goals as goal

pub loop-at-preserved : goal.loop-at-preserved
loop-at-preserved c =
    let ts = c.args.targets.now in
    let end = c.stem_end-at.result in
    (subst (AreStemEnds ts 0 end) (sym c.in_ok-push.ensures.items) (stems_push ts 0 c.loop-at.at end c.loop-at.ends.items c.loop-at.invariant.0 c.stem_end-at.ensures), c.stem_end-at.ensures.within)
