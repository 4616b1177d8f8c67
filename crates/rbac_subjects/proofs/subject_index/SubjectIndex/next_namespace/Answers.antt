use Rattle.std.proofs.Common.{◌≡◌, ◌≤◌, ◌<◌, ◌↔◌, ℕ, List, arith, length, refl, slice_get, subst, sym}
use Rattle.std.specs.Prelude.{Some}
use Rattle.std.specs.declared.cmp.Ordering.TheVariants.{Less}
use Rattle.std.proofs.lemmas.Bool.Decides.{nat_tests}
use Rattle.std.proofs.lemmas.Option.{slice_get_read}
use Rattle.rbac_terms.specs.declared.granting.Binding.{Binding}
use Rattle.rbac_subjects.specs.declared.subject_keys.Keyed.{Keyed}
use Rattle.rbac_model.specs.Holders.{IsKeyFor}
use Rattle.rbac_subjects.specs.Keyed.{IsLiveAt, IsLiveUnderAny, IsNextOf}
use Rattle.rbac_subjects.specs.Living.{namespace_cmp}
use Rattle.rbac_subjects.proofs.NamespaceLemmas.{found_namespace, found_within, none_named}
use Rattle.rbac_subjects.proofs.subject_index.SubjectIndex.next_namespace.Goals as goal

pub returns-in_default : goal.returns-in_default
returns-in_default c =
    let p = c.self.inside.policy.now in
    let live = c.everywhere-live.result in
    let from = c.first_from-from.result in
    let asked = c.args.namespace.now in
    let lives = subst (λ (bs : List Binding). (at : ℕ) → at < length bs → IsLiveAt live at) c.bindings-bindings.ensures.bindings (λ at low. (c.everywhere-live.ensures at).1 low) in
    let before = subst (λ (bs : List Binding). (at : ℕ) (b : Binding) → slice_get bs at ≡ Some b → (at < from) ↔ (namespace_cmp b.namespace asked ≡ Less)) c.bindings-bindings.ensures.bindings c.first_from-from.ensures in
    let none = subst (λ (l : List Keyed). (at : ℕ) → from ≤ at → IsLiveUnderAny l live (IsKeyFor c.args.principal.now) at → ⊥) c.as_slice.ensures.value c.in_default.ensures in
    rw (← c.self.view_is) (none_named p c.bindings-bindings.ensures.policy c.self.inside.named.items c.self.invariant c.args.principal.now live lives asked from before none)

-- the binding at a place that is found is there
pub returns-in_default-get : goal.returns-in_default-get
returns-in_default-get c =
    let p = c.self.inside.policy.now in
    let live = c.everywhere-live.result in
    let from = c.first_from-from.result in
    let lives = subst (λ (bs : List Binding). (at : ℕ) → at < length bs → IsLiveAt live at) c.bindings-bindings.ensures.bindings (λ at low. (c.everywhere-live.ensures at).1 low) in
    let next = subst (λ (l : List Keyed). IsNextOf (IsLiveUnderAny l live (IsKeyFor c.args.principal.now)) from c.in-Some.place) c.as_slice.ensures.value c.in-Some.ensures in
    let low : c.in-Some.place < length c.bindings-bindings.result.now =
    subst (λ (bs : List Binding). c.in-Some.place < length bs) (sym c.bindings-bindings.ensures.bindings) (found_within p c.bindings-bindings.ensures.policy c.self.inside.named.items c.self.invariant c.args.principal.now live lives from c.in-Some.place next) in
    let none = c.in_default-get.ensures.lookup.0 in
    absurd (grind (arith, nat_tests))

pub returns : goal.returns
returns c =
    let p = c.self.inside.policy.now in
    let live = c.everywhere-live.result in
    let from = c.first_from-from.result in
    let asked = c.args.namespace.now in
    let at = c.in-Some.place in
    let lives = subst (λ (bs : List Binding). (at : ℕ) → at < length bs → IsLiveAt live at) c.bindings-bindings.ensures.bindings (λ at low. (c.everywhere-live.ensures at).1 low) in
    let before = subst (λ (bs : List Binding). (at : ℕ) (b : Binding) → slice_get bs at ≡ Some b → (at < from) ↔ (namespace_cmp b.namespace asked ≡ Less)) c.bindings-bindings.ensures.bindings c.first_from-from.ensures in
    let next = subst (λ (l : List Keyed). IsNextOf (IsLiveUnderAny l live (IsKeyFor c.args.principal.now)) from at) c.as_slice.ensures.value c.in-Some.ensures in
    let found = rw c.bindings-bindings.ensures.bindings at c.in-Some-get.ensures.lookup in
    let there : slice_get p.held.bindings at ≡ Some c.in-Some-get.binding.now = slice_get_read _ _ _ _ refl found.3.0 found.1 in
    rw (← c.self.view_is, c.as_ref.ensures.value) (found_namespace p c.bindings-bindings.ensures.policy c.self.inside.named.items c.self.invariant c.args.principal.now live lives asked from before at c.in-Some-get.binding.now next there)
