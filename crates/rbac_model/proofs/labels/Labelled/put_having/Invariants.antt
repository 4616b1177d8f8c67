use Rattle.std.proofs.Common.{◌≤◌, ◌⊎◌, ◌≡◌}
use Rattle.rbac_model.proofs.LabelBits.{IsPutUpTo}
use Rattle.rbac_model.proofs.labels.Labelled.put_having.Given as goal

abbrev pub invariant-loop-at : goal.invariant-loop-at
invariant-loop-at l = record {
  put : IsPutUpTo l.self-inside.entries.items l.from l.initial.places l.places l.at;
  within : (l.at ≤ l.to) ⊎ (l.at ≡ l.from);
}
