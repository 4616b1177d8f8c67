use Rattle.std.proofs.Common.{drop, length}
use Rattle.rbac_reaches.specs.Matched.{AreStemEnds}
use Rattle.rbac_reaches.specs.Reaches.{IsReachBelow}
use Rattle.rbac_reaches.proofs.matches.places_by_stem.Given as goal

abbrev pub invariant-loop-stem_end : goal.invariant-loop-stem_end
invariant-loop-stem_end l = IsReachBelow l.rule l.targets l.start l.spans × AreStemEnds l.targets l.start (length l.targets) (drop l.stem_end-index l.ends)
