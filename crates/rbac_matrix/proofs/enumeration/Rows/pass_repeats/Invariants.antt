use Rattle.std.proofs.Common.{◌≡◌, ◌≤◌}
use Rattle.rbac_matrix.specs.Enumeration.{AreLeft, GoesOn, IsGoing, requests_left}
use Rattle.rbac_matrix.specs.Once.{PassesSome}
use Rattle.rbac_matrix.proofs.enumeration.Rows.pass_repeats.Given as goal

abbrev pub invariant-loop-self : goal.invariant-loop-self
invariant-loop-self l = record {
  going : IsGoing l.self;
  some : PassesSome (AreLeft l.initial.self) (AreLeft l.self);
  few : requests_left l.self ≤ requests_left l.initial.self;
  returned : l.self.returned ≡ l.initial.self.returned;
  same : GoesOn l.initial.self l.self;
}

abbrev pub decreases-loop-self : goal.decreases-loop-self
decreases-loop-self l = requests_left l.self
