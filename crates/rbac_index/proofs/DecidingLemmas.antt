-- the first grant that allows is of the first live binding that grants
use Rattle.std.proofs.Common.{◌≡◌, ℕ, ◌+◌, ◌<◌, ◌≤◌, ap, sym, ◌∙◌, subst, inl, inr, arith, slice_get, ◌↔◌, true, false}
use Rattle.std.specs.Prelude.{Option, Some, None, MatchOption, IfSome, is_some}
use Rattle.std.proofs.lemmas.Bool.{cases_lt, cases_eq}
use Rattle.std.proofs.lemmas.Option.{same_Some, slice_get-get_or, slice_get_within, get_or_from_slice_get}
use Rattle.rbac_terms.specs.Text.{Text}
use Rattle.rbac_terms.specs.Targets.{What}
use Rattle.rbac_terms.specs.Principals.{Who}
use Rattle.rbac_terms.specs.Granting.{Names}
use Rattle.rbac_terms.specs.declared.granting.Binding.{Binding}
use Rattle.rbac_terms.specs.declared.granting.Subject.{Subject}
use Rattle.rbac_model.specs.Lists.{IsFirstAt}
use Rattle.rbac_model.specs.Policies.{PolicyView, IsPolicy, GrantView, IsOfBinding, Live, BindingNames, GrantAllows, Allows, IsFirst}
use Rattle.rbac_model.specs.Sources.{source_of}
use Rattle.rbac_model.proofs.GrantNumbers.{some_grant, first_grant}
use Rattle.rbac_model.proofs.BindingPlaces.{places_rise, of_some_binding}
use Rattle.rbac_index.specs.Requested.{ThisTarget}
use Rattle.rbac_subjects.specs.Living.{IsLiveRoleBinding}
use Rattle.rbac_index.specs.Deciding.{IsWhyShown, AllowsOf, NoneAllowing, IsFirstAllowing, GrantsOf, NoneAmong, IsFirstAmong}
use Rattle.rbac_model.specs.declared.why.Why.{Why}

module _ (p : PolicyView) (who : Who) (verb : Text) (t : What) where
  allows_of : (at n : ℕ) → GrantsOf p who verb t at n → AllowsOf p verb (ThisTarget t) at n
  allows_of at n g = ((g.0, g.1, g.2), (g.0, g.1, g.4))

  pub none_allowed : (place : ℕ) → NoneAllowing p verb (ThisTarget t) place → NoneAmong p who verb t place (place + 1)
  none_allowed place none at n from to g =
      let e : at ≡ place = omega arith in
      none n (rw e at (allows_of at n g))

  -- why the one binding grants
  pub one_first : (place n subject : ℕ) (b : Binding) (g : GrantView) (why : Why) → slice_get p.held.bindings place ≡ Some b → IsFirstAllowing p verb (ThisTarget t) place n → slice_get p.grants n ≡ Some g
      → ((s : Subject) × IsFirstAt (λ s. Names s b.namespace who) b.subjects subject s) → why.binding.now ≡ b → why.subject_place ≡ subject
      → source_of why.source ≡ g.rule.source → why.rule_place ≡ g.rule.place → IsFirstAmong p who verb t place (place + 1) why
  one_first place n subject b g why there first at named is subject_is source rule =
      let of = first.0.0 in
      let by = first.0.1 in
      let same : of.0 ≡ g = same_Some of.0 g (sym of.1 ∙ at) in
      let also : by.0 ≡ g = same_Some by.0 g (sym by.1 ∙ at) in
      let mine : slice_get p.held.bindings place ≡ Some g.binding = of.2 ∙ ap (λ (v : GrantView). Some v.binding) same in
      let binding : b ≡ g.binding = same_Some b g.binding (sym there ∙ mine) in
      let P : Binding → Type 0 = λ x. (s : Subject) × IsFirstAt (λ s. Names s x.namespace who) x.subjects subject s in
      let subject_of = subst P binding named in
      let s = subject_of.0 in
      let names : BindingNames g.binding who = (subject, s, slice_get_within g.binding.subjects subject s subject_of.1.here, get_or_from_slice_get g.binding.subjects subject s s subject_of.1.here, subject_of.1.holds) in
      record {
        at = place;
        number = n;
        grant = g;
        within = (omega arith, omega arith);
        granted = at;
        grants = (g, at, mine, names, rw also at by.2);
        none_before = λ k m lt from to other. (let e : k ≡ place = omega arith in first.1 m lt (rw e at (allows_of k m other)));
        shown = (is ∙ binding, source, rule);
        subject = rw subject_is subject_of;
      }

  pub none_more : (from place : ℕ) → NoneAmong p who verb t from place → NoneAmong p who verb t place (place + 1) → NoneAmong p who verb t from (place + 1)
  none_more from place before here at n low high g = elim (cases_eq at place) [
    | inl e ↦ here at n (omega arith) (omega arith) g
    | inr ne ↦ before at n low (omega arith) g
  ]

  of_grant : (at n : ℕ) → GrantsOf p who verb t at n → IsOfBinding p n at
  of_grant at n g = (g.0, g.1, g.2)

  -- among more bindings, of which the earlier ones grant nothing
  pub widened : IsPolicy p → (from place to : ℕ) (why : Why) → from ≤ place → place < to → NoneAmong p who verb t from place → IsFirstAmong p who verb t place (place + 1) why → IsFirstAmong p who verb t from to why
  widened ok from place to why low high before first = record {
    at = first.at;
    number = first.number;
    grant = first.grant;
    within = (omega (arith, first.within.0), omega (arith, first.within.1));
    granted = first.granted;
    grants = first.grants;
    none_before = λ k n lt least most g.
        let rise : k ≤ first.at = places_rise p ok n first.number k first.at (omega arith) (of_grant k n g) (of_grant first.at first.number first.grants) in
        elim (cases_eq k place) [
          | inl e ↦ first.none_before k n lt (omega arith) (omega arith) g
          | inr ne ↦ before k n least (omega (arith, rise, first.within.1)) g
        ];
    shown = first.shown;
    subject = first.subject;
  }

  module _ (ok : IsPolicy p) (namespace : Text) where
    granting : (n i : ℕ) (g : GrantView) → slice_get p.grants n ≡ Some g → IsOfBinding p n i → GrantAllows who namespace verb t g → (slice_get p.held.bindings i ≡ Some g.binding) × GrantsOf p who verb t i n
    granting n i g at of allows =
        let same : of.0 ≡ g = same_Some of.0 g (sym of.1 ∙ at) in
        let there : slice_get p.held.bindings i ≡ Some g.binding = of.2 ∙ ap (λ (v : GrantView). Some v.binding) same in
        (there, (g, at, there, allows.1, allows.2))

    -- what grants and is live allows
    allowing : (n i : ℕ) (g : GrantView) → slice_get p.grants n ≡ Some g → GrantsOf p who verb t i n → ((b : Binding) → slice_get p.held.bindings i ≡ Some b → Live b.namespace namespace t) → GrantAllows who namespace verb t g
    allowing n i g at grants live =
        let same : grants.0 ≡ g = same_Some grants.0 g (sym grants.1 ∙ at) in
        let P : GrantView → Type 0 = GrantAllows who namespace verb t in
        subst P same (live grants.0.binding grants.2, grants.3, grants.4)

    -- the answer is the first grant's
    answered : (why : Why) (lo hi : ℕ) (f : IsFirstAmong p who verb t lo hi why) → IsFirstAt (GrantAllows who namespace verb t) p.grants f.number f.grant
        → IsWhyShown p who namespace verb t why × IsFirst p.held who namespace verb t why.binding.now
    answered why lo hi f first_at =
        let P : Binding → Type 0 = IsFirst p.held who namespace verb t in (
          (f.grant, record { grant = (f.number, first_at); subject = f.subject }, f.shown),
          subst P (sym f.shown.0) (first_grant p.held p.grants who namespace verb t ok.0 ok.1 f.number f.grant first_at),
        )

    abbrev pub IsDecided : Option Why → Type 0
    IsDecided r = MatchOption r (Allows p.held who namespace verb t → ⊥) (IsWhyShown p who namespace verb t) × IfSome r (λ why. IsFirst p.held who namespace verb t why.binding.now)

    module _ (count : ℕ) (first : (at : ℕ) (b : Binding) → slice_get p.held.bindings at ≡ Some b → (at < count) ↔ (b.namespace ≡ None)) where
      live_first : (at : ℕ) (b : Binding) → slice_get p.held.bindings at ≡ Some b → at < count → Live b.namespace namespace t
      live_first at b there lt = rw ((first at b there).0 lt) tt

      -- among the ClusterRoleBindings
      by_cluster : (why : Why) (f : IsFirstAmong p who verb t 0 count why) → IsFirstAt (GrantAllows who namespace verb t) p.grants f.number f.grant
      by_cluster why f = record {
        here = f.granted;
        holds = allowing f.number f.at f.grant f.granted f.grants (λ b there. live_first f.at b there f.within.1);
        none_before = λ k y lt read allows.
            let of = of_some_binding p ok k (slice_get_within p.grants k y read) in
            let by = granting k of.0 y read of.1 allows in
            let rise : of.0 ≤ f.at = places_rise p ok k f.number of.0 f.at (omega arith) of.1 (of_grant f.at f.number f.grants) in
            f.none_before of.0 k lt (omega arith) (omega (arith, rise, f.within.1)) by.1;
      }

      pub decided_first : (r : Option Why) → is_some r ≡ true → MatchOption r (NoneAmong p who verb t 0 count) (IsFirstAmong p who verb t 0 count) → IsDecided r
      decided_first None e found = cc
      decided_first (Some why) e found = answered why 0 count found (by_cluster why found)

      none_first : (r : Option Why) → is_some r ≡ false → MatchOption r (NoneAmong p who verb t 0 count) (IsFirstAmong p who verb t 0 count) → NoneAmong p who verb t 0 count
      none_first None e found = found
      none_first (Some why) e found = cc

      module _ (from to : ℕ) (between : (at : ℕ) (b : Binding) → slice_get p.held.bindings at ≡ Some b → ((from ≤ at) × (at < to)) ↔ IsLiveRoleBinding b namespace t) where
        -- a live binding is one of those that are looked at
        looked_at : (at : ℕ) (b : Binding) → slice_get p.held.bindings at ≡ Some b → Live b.namespace namespace t → ¬ (at < count) → (from ≤ at) × (at < to)
        looked_at at b there live past = (between at b there).1 (λ none. past ((first at b there).1 none), live)

        -- among the RoleBindings, where no ClusterRoleBinding grants
        by_own : (why : Why) → NoneAmong p who verb t 0 count → (f : IsFirstAmong p who verb t from to why) → IsFirstAt (GrantAllows who namespace verb t) p.grants f.number f.grant
        by_own why none f = record {
          here = f.granted;
          holds = allowing f.number f.at f.grant f.granted f.grants (λ b there. ((between f.at b there).0 f.within).1);
          none_before = λ k y lt read allows.
              let of = of_some_binding p ok k (slice_get_within p.grants k y read) in
              let by = granting k of.0 y read of.1 allows in
              elim (cases_lt of.0 count) [
                | inl l ↦ none of.0 k (omega arith) l by.1
                | inr l ↦
                    let within = looked_at of.0 y.binding by.0 allows.0 (λ m. omega arith) in
                    f.none_before of.0 k lt within.0 within.1 by.1
              ];
        }

        none_allows : NoneAmong p who verb t 0 count → NoneAmong p who verb t from to → ¬ Allows p.held who namespace verb t
        none_allows cluster own allows =
            let some = some_grant p.held p.grants who namespace verb t ok.0 ok.1 allows in
            let n = some.0 in
            let g = some.1 in
            let read : slice_get p.grants n ≡ Some g = slice_get-get_or p.grants n g some.2 ∙ ap (λ (v : GrantView). Some v) some.3 in
            let of = of_some_binding p ok n some.2 in
            let by = granting n of.0 g read of.1 some.4 in
            elim (cases_lt of.0 count) [
              | inl l ↦ cluster of.0 n (omega arith) l by.1
              | inr l ↦
                  let within = looked_at of.0 g.binding by.0 some.4.0 (λ m. omega arith) in
                  own of.0 n within.0 within.1 by.1
            ]

        decided_own : (r : Option Why) → NoneAmong p who verb t 0 count → MatchOption r (NoneAmong p who verb t from to) (IsFirstAmong p who verb t from to) → IsDecided r
        decided_own None none found = (none_allows none found, tt)
        decided_own (Some why) none found = answered why from to found (by_own why none found)

        pub decided_second : (r s : Option Why) → is_some r ≡ false → MatchOption r (NoneAmong p who verb t 0 count) (IsFirstAmong p who verb t 0 count) → MatchOption s (NoneAmong p who verb t from to) (IsFirstAmong p who verb t from to) → IsDecided s
        decided_second r s e before found = decided_own s (none_first r e before) found
