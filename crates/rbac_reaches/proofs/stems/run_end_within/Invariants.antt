use Rattle.std.proofs.Common.{◌-◌, ◌<◌, ◌≤◌, length}
use Rattle.std.specs.Prelude.{option_copied}
use Rattle.rbac_reaches.specs.Matched.{AreOfStem}
use Rattle.rbac_reaches.proofs.stems.run_end_within.Given as goal

abbrev pub invariant-loop-step : goal.invariant-loop-step
invariant-loop-step l = record {
  low : l.at < l.end;
  high : l.end ≤ length l.targets;
  step : l.step ≤ l.end;
  run : AreOfStem (option_copied l.before) l.targets l.at l.end;
}

abbrev pub decreases-loop-step : goal.decreases-loop-step
decreases-loop-step l = l.step - 1
