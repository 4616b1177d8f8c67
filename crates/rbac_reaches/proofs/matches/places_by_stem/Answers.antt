use Rattle.std.proofs.Common.{arith, length}
use Rattle.rbac_reaches.proofs.ReachLemmas.{reach_all}
use Rattle.rbac_reaches.proofs.StemLemmas.{stems_end, stems_next}
use Rattle.rbac_reaches.proofs.matches.places_by_stem.Goals as goal

pub returns : goal.returns
returns c =
    let ts = c.args.targets.now in
    let done = stems_end ts c.loop-stem_end.start (length ts) c.loop-stem_end.stem_end-index c.args.ends.now c.loop-stem_end-test.false c.loop-stem_end.invariant.1 in
    reach_all c.args.rule.now ts c.loop-stem_end.start c.loop-stem_end.spans (omega (arith, done)) c.loop-stem_end.invariant.0

pub loop-stem_end-preserved : goal.loop-stem_end-preserved
loop-stem_end-preserved c =
    let ts = c.args.targets.now in (
      c.in_ok-push_stem.ensures,
      (stems_next ts c.loop-stem_end.start (length ts) c.loop-stem_end.stem_end-index c.args.ends.now c.loop-stem_end-test.true c.loop-stem_end.invariant.1).1,
    )

pub push_stem-requires-clause-stem : goal.push_stem-requires-clause-stem
push_stem-requires-clause-stem c =
    let ts = c.args.targets.now in
    (stems_next ts c.loop-stem_end.start (length ts) c.loop-stem_end.stem_end-index c.args.ends.now c.loop-stem_end-test.true c.loop-stem_end.invariant.1).0
