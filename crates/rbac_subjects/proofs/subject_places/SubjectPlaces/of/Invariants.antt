use Rattle.std.proofs.Common.{◌≡◌, ◌<◌, ◌⊎◌, [], ℕ, get_or, length, slice_get}
use Rattle.std.specs.Prelude.{Some}
use Rattle.rbac_terms.specs.declared.granting.Binding.{Binding}
use Rattle.rbac_subjects.specs.Naming.{AreKeyedSubjects}
use Rattle.rbac_subjects.proofs.subject_places.SubjectPlaces.of.Given as goal

abbrev pub invariant-loop-binding : goal.invariant-loop-binding
invariant-loop-binding l = record {
  len : length l.large.items ≡ l.binding-index;
  each : (at : ℕ) (b : Binding) → at < l.binding-index → slice_get l.policy.held.bindings at ≡ Some b
      → (get_or l.large.items at [] ≡ []) ⊎ AreKeyedSubjects b (get_or l.large.items at []);
}
