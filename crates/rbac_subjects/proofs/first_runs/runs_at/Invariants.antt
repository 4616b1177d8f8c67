use Rattle.std.proofs.Common.{◌≡◌, length, take}
use Rattle.std.specs.List.{AllZip}
use Rattle.rbac_subjects.specs.Bound.{IsRunAt}
use Rattle.rbac_subjects.proofs.first_runs.runs_at.Given as goal

abbrev pub invariant-loop-place : goal.invariant-loop-place
invariant-loop-place l = record {
  each : AllZip (IsRunAt l.policy) (take l.place-index l.places) l.runs.items;
  count : length l.runs.items ≡ l.place-index;
}
