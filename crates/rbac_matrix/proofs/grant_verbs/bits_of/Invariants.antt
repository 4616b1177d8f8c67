use Rattle.std.proofs.Common.{◌≡◌, ℕ, ◌<◌, ◌↔◌}
use Rattle.std.specs.Prelude.{Some, slice_get}
use Rattle.rbac_terms.specs.Text.{Text}
use Rattle.rbac_terms.specs.Matching.{VerbOk}
use Rattle.rbac_matrix.specs.GrantVerbs.{HasBit}
use Rattle.rbac_matrix.proofs.grant_verbs.bits_of.Given as goal

abbrev pub invariant-loop-place : goal.invariant-loop-place
invariant-loop-place l = record {
  bits : (k : ℕ) (verb : Text) → k < l.place → slice_get l.verbs k ≡ Some verb → HasBit l.bits k ↔ VerbOk l.rule verb;
  none : (k : ℕ) → HasBit l.bits k → k < l.place;
}
