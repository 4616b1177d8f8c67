-- The powers of a step, binding by binding.
use Rattle.std.proofs.Common.{◌≡◌, ◌<◌, ◌≤◌, ◌+◌, ℕ, Option, Some, None, IsSome, slice_get, inl, inr, refl, sym, ap, ap₂, ◌∙◌, subst, arith}
use Rattle.std.specs.BTreeMap.{get}
use Rattle.std.proofs.lemmas.Bool.{cases_lt}
use Rattle.std.proofs.lemmas.Option.{same_Some, slice_get_within, get_or_from_slice_get}
use Rattle.rbac_terms.specs.Text.{Text, text_cmp}
use Rattle.rbac_terms.specs.Granting.{IsSubjectKey}
use Rattle.rbac_terms.specs.declared.granting.Binding.{Binding}
use Rattle.rbac_terms.specs.declared.granting.Subject.{Subject}
use Rattle.rbac_model.specs.Lists.{IsFirstAt}
use Rattle.rbac_model.specs.Policies.{GrantView, IsOfBinding, IsPolicy, PolicyView}
use Rattle.rbac_model.proofs.BindingPlaces.{of_some_binding, places_rise}
use Rattle.rbac_model.specs.Holders.{HasKey}
use Rattle.rbac_paths.specs.Finding.{AddsPowers, FindsPowers, Found, GivesNone, IsFirstGiving, IsGrantOf}
use Rattle.rbac_paths.specs.Powers.{GivesThere, IsPower, PowerView, who_and_where}
use Rattle.rbac_steps.specs.declared.steps.Step.{Step}
use Rattle.rbac_paths.proofs.Adding.{none_some, still_some}
use Rattle.rbac_paths.proofs.Giving.{own_binding}

module _ (p : PolicyView) (step : Step) where
  pub finds_none : (m : Found) → ((t : Text) (y : PowerView) → get text_cmp m t ≡ Some y → ⊥) → FindsPowers p step 0 m
  finds_none m empty = record { has = λ place n g key low. absurd (omega (arith, low)); only = λ t y e. absurd (empty t y e) }

  -- no grant of the next binding gives the step
  pub finds_same : (count : ℕ) (m : Found) → GivesNone p step count → FindsPowers p step count m → FindsPowers p step (count + 1) m
  finds_same count m none f = record {
    has = λ place n g key low of gives has. elim (cases_lt place count) [
      | inl less ↦ f.has place n g key less of gives has
      | inr high ↦ (let same : place ≡ count = omega (arith, low, high) in absurd (none n g (subst (λ (i : ℕ). IsGrantOf p i n g) same of) gives))
    ];
    only = f.only;
  }

  module _ (ok : IsPolicy p) (count n : ℕ) (g : GrantView) (here : slice_get p.grants n ≡ Some g) (first : IsFirstGiving p step count n) (a b : Found)
      (f : FindsPowers p step count a) (adds : AddsPowers step g g.binding.subjects a b) where
    there : slice_get p.held.bindings count ≡ Some g.binding
    there = first.of_binding.2 ∙ ap (λ (x : GrantView). Some x.binding) (same_Some first.of_binding.0 g (sym first.of_binding.1 ∙ here))

    -- no earlier grant gives the step to the key there, because no power was found there
    none_earlier : (t key : Text) → get text_cmp a t ≡ None → t ≡ who_and_where key g.binding.namespace → (m : ℕ) (z : GrantView) → m < n → slice_get p.grants m ≡ Some z → GivesThere step key g.binding.namespace z → ⊥
    none_earlier t key none same m z low at (where_is, has, gives) =
        let place = of_some_binding p ok m (slice_get_within p.grants m z at) in
        let le : place.0 ≤ count = places_rise p ok m n place.0 count (omega (arith, low)) place.1 first.of_binding in
        elim (cases_lt place.0 count) [
          | inl less ↦ none_some (get text_cmp a t) none (subst (λ (w : Text). IsSome (get text_cmp a w)) (ap (λ (o : Option Text). who_and_where key o) where_is ∙ sym same) (f.has place.0 m z key less (at, place.1) gives has))
          | inr high ↦ (let same_place : place.0 ≡ count = omega (arith, le, high) in first.first m z low (at, subst (λ (i : ℕ). IsOfBinding p m i) same_place place.1) gives)
        ]

    has_key : (key : Text) (i : ℕ) (s : Subject) → IsFirstAt (λ s. IsSubjectKey s g.binding.namespace key) g.binding.subjects i s → HasKey g.binding key
    has_key key i s at = (i, s, slice_get_within g.binding.subjects i s at.here, get_or_from_slice_get g.binding.subjects i s s at.here, at.holds)

    -- the entry that is added is a power
    new_power : (t key : Text) (i : ℕ) → get text_cmp a t ≡ None → t ≡ who_and_where key g.binding.namespace → (s : Subject) × IsFirstAt (λ s. IsSubjectKey s g.binding.namespace key) g.binding.subjects i s → IsPower p (record { step = step; who = key; grant = g; subject_place = i })
    new_power t key i none same subject = record {
      grant = (
        n,
        record {
          here = here;
          holds = (refl, has_key key i subject.0 subject.1, first.gives g here);
          none_before = λ m z low at gives. none_earlier t key none same m z low at gives;
        },
      );
      subject = subject;
    }

    made : (x : PowerView) → x.step ≡ step → x.grant ≡ g → x ≡ record { step = step; who = x.who; grant = g; subject_place = x.subject_place }
    made x s e = ap₂ (λ (step : Step) (g : GrantView). (let y : PowerView = record { step = step; who = x.who; grant = g; subject_place = x.subject_place } in y)) s e

    pub finds_more : FindsPowers p step (count + 1) b
    finds_more = record {
      has = λ place m z key low of gives has. elim (cases_lt place count) [
        | inl less ↦ (let t = who_and_where key z.binding.namespace in still_some (get text_cmp a t) (get text_cmp b t) (adds.kept t) (f.has place m z key less of gives has))
        | inr high ↦ (let same : place ≡ count = omega (arith, low, high) in
            let own : z.binding ≡ g.binding = own_binding p m count z g.binding of.0 (subst (λ (i : ℕ). IsOfBinding p m i) same of.1) there in
            subst (λ (x : Binding). IsSome (get text_cmp b (who_and_where key x.namespace))) (sym own) (adds.has key (subst (λ (x : Binding). HasKey x key) own has)))
      ];
      only = λ t y e. elim (adds.only t y e) [
        | inl old ↦ f.only t y old
        | inr new ↦ (let by = new.1 in
            let is = made y by.step_is by.grant_is in (
              by.text_is ∙ ap (λ (x : GrantView). who_and_where y.who x.binding.namespace) (sym by.grant_is),
              by.step_is,
              subst (λ (x : PowerView). IsPower p x) (sym is) (new_power t y.who y.subject_place new.0 by.text_is by.subject),
            ))
      ];
    }
