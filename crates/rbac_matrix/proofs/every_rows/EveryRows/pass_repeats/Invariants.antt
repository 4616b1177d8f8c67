use Rattle.std.proofs.Common.{◌≡◌, ◌≤◌}
use Rattle.rbac_matrix.specs.Enumeration.{GoesOn}
use Rattle.rbac_matrix.specs.EveryLeft.{AreEveryLeft, IsGoingEvery, pairs_left}
use Rattle.rbac_matrix.specs.Once.{PassesSome}
use Rattle.rbac_matrix.proofs.every_rows.EveryRows.pass_repeats.Given as goal

abbrev pub invariant-loop : goal.invariant-loop
invariant-loop l = record {
  going : IsGoingEvery l.self;
  some : PassesSome (AreEveryLeft l.initial.self) (AreEveryLeft l.self);
  few : pairs_left l.self ≤ pairs_left l.initial.self;
  returned : l.self.rows.returned ≡ l.initial.self.rows.returned;
  same : GoesOn l.initial.self.rows l.self.rows;
}

abbrev pub decreases-loop : goal.decreases-loop
decreases-loop l = pairs_left l.self
