use Rattle.std.proofs.Common.{◌≡◌, ◌≤◌}
use Rattle.rbac_matrix.specs.Enumeration.{AreLeft, GoesOn, IsGoing, requests_left, left_to_pass}
use Rattle.rbac_matrix.specs.Once.{PassesSome}
use Rattle.rbac_matrix.proofs.enumeration.Rows.pass_rest.Given as goal

abbrev pub invariant-loop : goal.invariant-loop
invariant-loop l = record {
  going : IsGoing l.self;
  some : PassesSome (AreLeft l.initial.self) (AreLeft l.self);
  few : requests_left l.self ≤ requests_left l.initial.self;
  returned : l.self.returned ≡ l.initial.self.returned;
  same : GoesOn l.initial.self l.self;
}

abbrev pub decreases-loop : goal.decreases-loop
decreases-loop l = left_to_pass l.self
