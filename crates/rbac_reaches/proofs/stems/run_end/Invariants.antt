use Rattle.std.proofs.Common.{◌-◌, ◌<◌, ◌≤◌, length}
use Rattle.std.specs.Prelude.{option_copied}
use Rattle.rbac_reaches.specs.Matched.{AreOfStem}
use Rattle.rbac_reaches.proofs.stems.run_end.Given as goal

abbrev pub invariant-loop-end : goal.invariant-loop-end
invariant-loop-end l = record {
  low : l.at < l.end;
  high : l.end ≤ length l.targets;
  some : 1 ≤ l.step;
  step : l.step ≤ l.end;
  run : AreOfStem (option_copied l.before) l.targets l.at l.end;
}

abbrev pub decreases-loop-end : goal.decreases-loop-end
decreases-loop-end l = length l.targets - l.end
