use Rattle.std.proofs.Common.{◌≡◌}
use Rattle.std.specs.Prelude.{Some, slice_get}
use Rattle.rbac_terms.specs.Text.{Text}
use Rattle.rbac_index.specs.Requested.{RequestedView}
use Rattle.rbac_model.specs.Policies.{Held}
use Rattle.rbac_index.specs.HolderViews.{sighted}
use Rattle.rbac_index.specs.Holding.{AreSeen, BringsAt}
use Rattle.rbac_terms.specs.declared.scope.Scope.{Scope}
use Rattle.rbac_index.proofs.sightings.see_subjects.Given as goal

abbrev pub invariant-loop-subject_place : goal.invariant-loop-subject_place
invariant-loop-subject_place l =
    (held : Held) (scope : Scope) (verb : Text) (t : RequestedView) → slice_get held.bindings l.binding_place ≡ Some l.binding → BringsAt held scope verb t l.binding_place
    → AreSeen held scope verb t l.binding_place 0 (sighted l.fn.seen.items) → AreSeen held scope verb t l.binding_place l.subject_place (sighted l.seen.items)
