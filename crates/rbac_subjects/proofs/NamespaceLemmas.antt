-- the least namespace where a RoleBinding names the principal
use Rattle.std.proofs.Common.{◌≡◌, ◌<◌, ◌≤◌, ◌↔◌, ◌∙◌, ℕ, List, ap, arith, inl, inr, length, refl, slice_get, subst, sym}
use Rattle.std.specs.Prelude.{Option, Some, None}
use Rattle.std.specs.declared.cmp.Ordering.TheVariants.{Less}
use Rattle.std.proofs.lemmas.Bool.{cases_lt}
use Rattle.std.proofs.lemmas.Option.{same_Some, slice_get_within}
use Rattle.rbac_terms.specs.Text.{Text, text_cmp}
use Rattle.rbac_terms.specs.Principals.{Who}
use Rattle.rbac_terms.specs.declared.granting.Binding.{Binding}
use Rattle.rbac_model.specs.Policies.{BindingNames, GrantView, IsPolicy, PolicyView}
use Rattle.rbac_model.proofs.BindingPlaces.{of_some_binding}
use Rattle.rbac_subjects.specs.declared.live_bindings.Live.{Live}
use Rattle.rbac_subjects.specs.declared.subject_keys.Keyed.{Keyed}
use Rattle.rbac_subjects.specs.Bound.{AnswersNextNamespace, IsNamedIn, IsNextNamespace}
use Rattle.rbac_model.specs.Holders.{IsKeyFor}
use Rattle.rbac_subjects.specs.Keyed.{AreKeyed, IsLiveAt, IsLiveUnderAny, IsNextOf}
use Rattle.rbac_subjects.specs.Living.{namespace_cmp}
use Rattle.rbac_subjects.proofs.LivingLemmas.{earlier_namespace}
use Rattle.rbac_subjects.proofs.NextRunLemmas.{listed_at, named_at, names_of}

module _ (p : PolicyView) (ok : IsPolicy p) (xs : List Keyed) (are : AreKeyed p xs) (who : Who) (live : Live) (lives : (at : ℕ) → at < length p.held.bindings → IsLiveAt live at) where
  abbrev Found : ℕ → Type 0
  Found = IsLiveUnderAny xs live (IsKeyFor who)

  -- a RoleBinding that names the principal is found at its place
  place_of : (x : Text) → IsNamedIn p who x → (at : ℕ) × (b : Binding) × (slice_get p.held.bindings at ≡ Some b) × (b.namespace ≡ Some x) × Found at
  place_of x named =
      let of = of_some_binding p ok named.0 (slice_get_within p.grants named.0 named.1 named.2) in
      let same : named.1 ≡ of.1.0 = same_Some named.1 of.1.0 (sym named.2 ∙ of.1.1) in
      let names = subst (λ (g : GrantView). BindingNames g.binding who) same named.3 in
      let k = listed_at p ok xs are who of.0 of.1.0.binding of.1.2 (named.0, of.1) names in (
        of.0,
        of.1.0.binding,
        of.1.2,
        ap (λ (g : GrantView). g.binding.namespace) (sym same) ∙ named.4,
        (k.0, k.1, (k.2, lives of.0 (slice_get_within p.held.bindings of.0 of.1.0.binding of.1.2))),
      )

  module _ (asked : Text) (from : ℕ) (before : (at : ℕ) (b : Binding) → slice_get p.held.bindings at ≡ Some b → (at < from) ↔ (namespace_cmp b.namespace asked ≡ Less)) where
    earlier : (x : Text) (at : ℕ) (b : Binding) → slice_get p.held.bindings at ≡ Some b → b.namespace ≡ Some x → at < from → text_cmp x asked ≡ Less
    earlier x at b there is low = subst (λ (o : Option Text). namespace_cmp o asked ≡ Less) is ((before at b there).0 low)

    pub none_named : ((at : ℕ) → from ≤ at → Found at → ⊥) → (x : Text) → IsNamedIn p who x → text_cmp x asked ≡ Less
    none_named none x named =
        let at = place_of x named in
        elim (cases_lt at.0 from) [
          | inl low ↦ earlier x at.0 at.1 at.2 at.3 low
          | inr high ↦ absurd (none at.0 high at.4)
        ]

    -- past the first such binding there is a namespace
    some_namespace : (at : ℕ) (b : Binding) → IsNextOf Found from at → slice_get p.held.bindings at ≡ Some b → b.namespace ≡ None → ⊥
    some_namespace at b next there none =
        let low = (before at b there).1 (ap (λ (o : Option Text). namespace_cmp o asked) none) in
        omega (arith, low, next.after)

    next_named : (at : ℕ) (b : Binding) (found : Text) → IsNextOf Found from at → slice_get p.held.bindings at ≡ Some b → b.namespace ≡ Some found → IsNextNamespace p who asked found
    next_named at b found next there is =
        let of = ((are.exact (record { key = next.holds.0; place = at })).0 next.holds.2.0).0 in
        let same : b ≡ of.1.0.binding = same_Some b of.1.0.binding (sym there ∙ of.1.2) in
        record {
          after = λ less. (
              let low = (before at b there).1 (ap (λ (o : Option Text). namespace_cmp o asked) is ∙ less) in
              omega (arith, low, next.after)
              );
          named = (of.0, of.1.0, of.1.1, names_of p ok xs are who live of.0 at of.1 next.holds, ap (λ (c : Binding). c.namespace) (sym same) ∙ is);
          none_before = λ x named less. (
              let place = place_of x named in
              let low : place.0 < at = earlier_namespace p.held.bindings ok.0.bindings place.0 at place.1 b x found place.2 there place.3 is less in
              elim (cases_lt place.0 from) [
                | inl first ↦ earlier x place.0 place.1 place.2 place.3 first
                | inr past ↦ absurd (next.none_before place.0 past low place.4)
              ]
              );
        }

    by_namespace : (at : ℕ) (b : Binding) → IsNextOf Found from at → slice_get p.held.bindings at ≡ Some b → (o : Option Text) → b.namespace ≡ o → AnswersNextNamespace p who asked o
    by_namespace at b next there None e = absurd (some_namespace at b next there e)
    by_namespace at b next there (Some found) e = next_named at b found next there e

    pub found_namespace : (at : ℕ) (b : Binding) → IsNextOf Found from at → slice_get p.held.bindings at ≡ Some b → AnswersNextNamespace p who asked b.namespace
    found_namespace at b next there = by_namespace at b next there b.namespace refl

  -- a place that is found is that of a binding
  pub found_within : (from at : ℕ) → IsNextOf Found from at → at < length p.held.bindings
  found_within from at next =
      let b = named_at p ok xs are who next.holds.0 at next.holds.1 next.holds.2.0 in
      slice_get_within p.held.bindings at b.0 b.1
