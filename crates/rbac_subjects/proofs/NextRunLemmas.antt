-- the next grants of somebody, from the next binding that names them
use Rattle.std.proofs.Common.{◌≡◌, ℕ, ◌<◌, ◌≤◌, ◌-◌, List, length, slice_get, Contains, sym, ◌∙◌, refl, subst, arith, inl, inr, ◌↔◌, max, IsTrue}
use Rattle.std.specs.Prelude.{Option, Some, None, IfSome, is_some}
use Rattle.std.proofs.lemmas.Bool.{cases_eq, cases_lt}
use Rattle.std.proofs.lemmas.Option.{same_Some, slice_get_within}
use Rattle.rbac_terms.specs.Text.{Text}
use Rattle.rbac_terms.specs.Principals.{Who}
use Rattle.rbac_terms.specs.declared.granting.Binding.{Binding}
use Rattle.rbac_model.specs.Policies.{PolicyView, GrantView, IsPolicy, IsOfBinding, BindingNames}
use Rattle.rbac_model.specs.Universes.{LiveForSome}
use Rattle.rbac_model.proofs.BindingPlaces.{of_some_binding, places_rise}
use Rattle.rbac_subjects.specs.declared.subject_keys.Keyed.{Keyed}
use Rattle.rbac_subjects.specs.declared.live_bindings.Live.{Live}
use Rattle.rbac_subjects.specs.Bound.{AnswersNextRun, IsNamedBy, IsBoundTo, IsNextRunOf}
use Rattle.rbac_model.specs.Holders.{IsKeyFor}
use Rattle.rbac_subjects.specs.Keyed.{keyed, HasGrants, AreKeyed, IsLiveAt, IsNextOf, AnswersNext, IsLiveUnderAny, IsOfLive}
use Rattle.rbac_model.proofs.KeyNames.{naming_key, key_names}

module _ (p : PolicyView) (ok : IsPolicy p) (xs : List Keyed) (are : AreKeyed p xs) (who : Who) where
  -- the principal is named by a binding exactly where one of its keys is listed with it
  pub named_at : (key : Text) (place : ℕ) → IsKeyFor who key → Contains xs (keyed key place) → (b : Binding) × (slice_get p.held.bindings place ≡ Some b) × BindingNames b who
  named_at key place has c =
      let w = ((are.exact (keyed key place)).0 c).1 in
      (w.0, w.1, (w.2.0, w.2.1, w.2.2, w.2.3, key_names w.2.1 w.0.namespace who key w.2.4 has))

  pub listed_at : (place : ℕ) (b : Binding) → slice_get p.held.bindings place ≡ Some b → HasGrants p place → BindingNames b who → (key : Text) × IsKeyFor who key × Contains xs (keyed key place)
  listed_at place b there grants names =
      let k = naming_key names.1 b.namespace who names.4 in
      (k.0, k.2, (are.exact (keyed k.0 place)).1 (grants, (b, there, (names.0, names.1, names.2, names.3, k.1))))

  module _ (live : Live) where
    abbrev pub Found : ℕ → Type 0
    Found = IsLiveUnderAny xs live (IsKeyFor who)

    pub names_of : (n at : ℕ) (of : IsOfBinding p n at) → Found at → BindingNames of.0.binding who
    names_of n at of found =
        let w = named_at found.0 at found.1 found.2.0 in
        subst (λ (b : Binding). BindingNames b who) (same_Some w.0 of.0.binding (sym w.1 ∙ of.2)) w.2

    -- a grant's binding names the principal exactly if it is listed under one of its keys
    pub found_named : (n : ℕ) → IsOfLive p xs live (IsKeyFor who) n → IsNamedBy p who n
    found_named n of = (of.1.0, of.1.1, names_of n of.0 of.1 of.2)

    pub named_found : (lives : (at : ℕ) → at < length p.held.bindings → IsLiveAt live at) (n : ℕ) → IsNamedBy p who n → IsOfLive p xs live (IsKeyFor who) n
    named_found lives n named =
        let of = of_some_binding p ok n (slice_get_within p.grants n named.0 named.1) in
        let same : named.0 ≡ of.1.0 = same_Some named.0 of.1.0 (sym named.1 ∙ of.1.1) in
        let names = subst (λ (g : GrantView). BindingNames g.binding who) same named.2 in
        let k = listed_at of.0 of.1.0.binding of.1.2 (n, of.1) names in
        (of.0, of.1, (k.0, k.1, (k.2, lives of.0 (slice_get_within p.held.bindings of.0 of.1.0.binding of.1.2))))

    pub any_named : (lives : (at : ℕ) → at < length p.held.bindings → IsLiveAt live at) (o : Option ℕ) → AnswersNext Found 0 o → IsTrue (is_some o) ↔ ((n : ℕ) × IsNamedBy p who n)
    any_named lives None none = (
      λ f. cc,
      λ a. let of = named_found lives a.0 a.1 in absurd (none of.0 (omega arith) of.2),
    )
    any_named lives (Some at) next = (
      λ t. let of = ((are.exact (keyed next.holds.0 at)).0 next.holds.2.0).0 in (of.0, found_named of.0 (at, of.1, next.holds)),
      λ a. refl,
    )

    module _ (namespace : Text) (lives : (at : ℕ) (b : Binding) → slice_get p.held.bindings at ≡ Some b → IsLiveAt live at ↔ LiveForSome b.namespace namespace) where
      -- and is bound to the principal exactly if it is live there besides
      pub bound_of : (n at : ℕ) → IsOfBinding p n at → Found at → IsBoundTo p who namespace n
      bound_of n at of found = (of.0, of.1, names_of n at of found, (lives at of.0.binding of.2).0 found.2.1)

      pub of_bound : (n at : ℕ) → IsOfBinding p n at → IsBoundTo p who namespace n → Found at
      of_bound n at of bound =
          let same : bound.0 ≡ of.0 = same_Some bound.0 of.0 (sym bound.1 ∙ of.1) in
          let names = subst (λ (g : GrantView). BindingNames g.binding who) same bound.2 in
          let live_there = subst (λ (g : GrantView). LiveForSome g.binding.namespace namespace) same bound.3 in
          let k = listed_at at of.0.binding of.2 (n, of) names in
          (k.0, k.1, (k.2, (lives at of.0.binding of.2).1 live_there))

      pub live_bound : (n : ℕ) → IsOfLive p xs live (IsKeyFor who) n → IsBoundTo p who namespace n
      live_bound n of = bound_of n of.0 of.1 of.2

      pub bound_live : (n : ℕ) → IsBoundTo p who namespace n → IsOfLive p xs live (IsKeyFor who) n
      bound_live n bound =
          let of = of_some_binding p ok n (slice_get_within p.grants n bound.0 bound.1) in
          (of.0, of.1, of_bound n of.0 of.1 bound)

    module _ (from here : ℕ) (of_from : IsOfBinding p from here) where
      pub none_left : ((at : ℕ) → here ≤ at → Found at → ⊥) → (n : ℕ) → from ≤ n → IsOfLive p xs live (IsKeyFor who) n → ⊥
      none_left none n le of = none of.0 (places_rise p ok from n here of.0 le of_from of.1) of.2

      module _ (place start end begin : ℕ) (next : IsNextOf Found here place) (between : (n at : ℕ) → IsOfBinding p n at → ((start ≤ n) × (n < end)) ↔ (at ≡ place)) (within : end ≤ length p.grants) (is : begin ≡ max start from) where
        one : (n : ℕ) × IsOfBinding p n place
        one = ((are.exact (keyed next.holds.0 place)).0 next.holds.2.0).0

        from_inside : from < end
        from_inside = elim (cases_eq here place) [
          | inl e ↦ ((between from here of_from).1 e).1
          | inr ne ↦
              let w = (between one.0 place one.1).1 refl in
              elim (cases_lt from one.0) [
                | inl l ↦ omega (arith, l, w.1)
                | inr l ↦ absurd (omega (arith, ne, next.after, places_rise p ok one.0 from place here l one.1 of_from))
              ]
        ]

        before_start : (n at : ℕ) → IsOfBinding p n at → n < start → at < place
        before_start n at of less = elim (cases_lt at place) [
          | inl l ↦ l
          | inr l ↦
              let w = (between one.0 place one.1).1 refl in
              elim (cases_eq at place) [
                | inl e ↦ absurd (omega (arith, less, ((between n at of).1 e).0))
                | inr ne ↦ absurd (omega (arith, ne, l, places_rise p ok n one.0 at place (omega (arith, less, w.0)) of one.1))
              ]
        ]

        some_found : begin < end
        some_found = let w = (between one.0 place one.1).1 refl in omega (arith, is, from_inside, w.0, w.1)

        -- a grant of the first one's binding is before the end
        whole_found : (n at : ℕ) → IsOfBinding p begin at → IsOfBinding p n at → n < end
        whole_found n at first of =
            let here : at ≡ place = (between begin at first).0 (omega (arith, is), some_found) in
            ((between n at of).1 here).1

        pub found_run : IsNextRunOf p (IsOfLive p xs live (IsKeyFor who)) from begin end
        found_run = record {
          after = omega (arith, is);
          some = some_found;
          bound = λ n low high.
              let of = of_some_binding p ok n (omega (arith, high, within)) in
              let at : of.0 ≡ place = (between n of.0 of.1).0 (omega (arith, is, low), high) in
              (place, subst (IsOfBinding p n) at of.1, next.holds);
          none_before = λ n low less of. next.none_before of.0 (places_rise p ok from n here of.0 low of_from of.1) (before_start n of.0 of.1 (omega (arith, is, low, less))) of.2;
          whole = λ n at low first of. whole_found n at first of;
        }

-- the next run of what has one property is that of what has another, if the same grants have both
pub runs_alike : (p : PolicyView) (P Q : ℕ → Type 0) → ((n : ℕ) → P n → Q n) → ((n : ℕ) → Q n → P n) → (from : ℕ) (o : Option (ℕ × ℕ)) → AnswersNextRun p P from o → AnswersNextRun p Q from o
runs_alike p P Q to back from None none = λ n low has. none n low (back n has)
runs_alike p P Q to back from (Some run) is = record {
  after = is.after;
  some = is.some;
  bound = λ n low high. to n (is.bound n low high);
  none_before = λ n low less has. is.none_before n low less (back n has);
  whole = is.whole;
}

-- a run of grants that are there ends with them
pub runs_within : (p : PolicyView) (who : Who) (from : ℕ) (o : Option (ℕ × ℕ)) → AnswersNextRun p (IsNamedBy p who) from o → IfSome o (λ run. run.1 ≤ length p.grants)
runs_within p who from None none = tt
runs_within p who from (Some run) is =
    let some = is.some in
    let last = is.bound (run.1 - 1) (omega (arith, some)) (omega (arith, some)) in
    let low = slice_get_within p.grants (run.1 - 1) last.0 last.1 in
    omega (arith, low, some)
