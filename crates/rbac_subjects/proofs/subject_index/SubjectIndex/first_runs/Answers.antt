use Rattle.std.proofs.Common.{◌≡◌, ◌∙◌, ◌↔◌, ◌<◌, ℕ, List, AllPairs, length, slice_get, ap, sym, subst}
use Rattle.std.specs.Prelude.{Some}
use Rattle.std.specs.List.{AllZip}
use Rattle.rbac_terms.specs.declared.granting.Binding.{Binding}
use Rattle.rbac_model.specs.Universes.{LiveForSome}
use Rattle.rbac_subjects.specs.declared.subject_keys.Keyed.{Keyed}
use Rattle.rbac_subjects.specs.Bound.{IsRunAt}
use Rattle.rbac_model.specs.Holders.{IsKeyFor}
use Rattle.rbac_subjects.specs.Keyed.{IsLiveAt, IsLiveUnderAny}
use Rattle.rbac_subjects.specs.Least.{Takes, no_places}
use Rattle.rbac_subjects.proofs.FirstRunLemmas.{first_runs, other_runs, zip_length}
use Rattle.rbac_subjects.proofs.LeastLemmas.{least}
use Rattle.rbac_subjects.proofs.subject_index.SubjectIndex.first_runs.Goals as goal

pub returns-clause-runs : goal.returns-clause-runs
returns-clause-runs c =
    let p = c.self.inside.policy.now in
    let who = c.args.principal.now in
    let live = c.live_for_some-live.result in
    let places = c.first_places-places.result in
    let lives = subst (λ (bs : List Binding). (at : ℕ) (b : Binding) → slice_get bs at ≡ Some b → IsLiveAt live at ↔ LiveForSome b.namespace c.args.namespace.now) c.bindings.ensures.bindings c.live_for_some-live.ensures in
    let takes = subst (λ (l : List Keyed). Takes (IsLiveUnderAny l live (IsKeyFor who)) no_places places) c.as_slice.ensures.value c.first_places-places.ensures in
    let up : AllPairs (λ a b. a < b) places.kept = c.kept.ensures.ascending in
    let zip : AllZip (IsRunAt p) places.kept c.runs_at.result.items = subst (λ (ps : List ℕ). AllZip (IsRunAt p) ps c.runs_at.result.items) c.kept.ensures.places c.runs_at.ensures in
    rw (← c.self.view_is, c.are_all.ensures) (first_runs p c.bindings.ensures.policy c.self.inside.named.items c.self.invariant who live c.args.namespace.now lives places
    (least (IsLiveUnderAny c.self.inside.named.items live (IsKeyFor who)) places up takes) c.runs_at.result.items zip)

pub returns-clause-others : goal.returns-clause-others
returns-clause-others c = λ e.
    let p = c.self.inside.policy.now in
    let who = c.args.principal.now in
    let live = c.live_for_some-live.result in
    let places = c.first_places-places.result in
    let lives = subst (λ (bs : List Binding). (at : ℕ) (b : Binding) → slice_get bs at ≡ Some b → IsLiveAt live at ↔ LiveForSome b.namespace c.args.namespace.now) c.bindings.ensures.bindings c.live_for_some-live.ensures in
    let takes = subst (λ (l : List Keyed). Takes (IsLiveUnderAny l live (IsKeyFor who)) no_places places) c.as_slice.ensures.value c.first_places-places.ensures in
    let up : AllPairs (λ a b. a < b) places.kept = c.kept.ensures.ascending in
    let zip : AllZip (IsRunAt p) places.kept c.runs_at.result.items = subst (λ (ps : List ℕ). AllZip (IsRunAt p) ps c.runs_at.result.items) c.kept.ensures.places c.runs_at.ensures in
    rw (← c.self.view_is) (other_runs p c.bindings.ensures.policy c.self.inside.named.items c.self.invariant who live c.args.namespace.now lives places
    (least (IsLiveUnderAny c.self.inside.named.items live (IsKeyFor who)) places up takes) (sym c.are_all.ensures ∙ e) c.runs_at.result.items zip)

pub returns-clause-most : goal.returns-clause-most
returns-clause-most c = λ e.
    sym (zip_length (IsRunAt c.self.inside.policy.now) c.kept.result.now c.runs_at.result.items c.runs_at.ensures)
    ∙ ap length c.kept.ensures.places ∙ c.kept.ensures.full (sym c.are_all.ensures ∙ e)
