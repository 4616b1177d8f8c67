use Rattle.std.proofs.Common.{◌≡◌, ℕ}
use Rattle.std.specs.Prelude.{Some}
use Rattle.rbac_subjects.proofs.KeyingLemmas.{AreKeyedBelow, HasOneBelow}
use Rattle.rbac_subjects.proofs.subject_keys.keyed_by.Given as goal

abbrev pub invariant-loop-number : goal.invariant-loop-number
invariant-loop-number l = record {
  keyed : AreKeyedBelow l.policy l.number l.entries.items;
  last : (place : ℕ) → l.last ≡ Some place → HasOneBelow l.policy l.number place;
}
