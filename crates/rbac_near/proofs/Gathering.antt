-- The near grants to groups, binding by binding.
use Rattle.std.proofs.Common.{◌≡◌, ◌<◌, ◌≤◌, ◌+◌, ℕ, Some, None, Contains, slice_get, inl, inr, refl, sym, ap, ◌∙◌, subst, arith}
use Rattle.std.specs.BTreeMap.{get}
use Rattle.std.proofs.lemmas.Bool.{cases_lt}
use Rattle.std.proofs.lemmas.Option.{same_Some, slice_get_within, get_or_from_slice_get}
use Rattle.rbac_terms.specs.Text.{Text, text_cmp}
use Rattle.rbac_terms.specs.declared.granting.Binding.{Binding}
use Rattle.rbac_terms.specs.declared.granting.Subject.TheVariants.{Group as ForGroup}
use Rattle.rbac_model.specs.Lists.{IsFirstAt}
use Rattle.rbac_model.specs.Policies.{GrantView, IsOfBinding, IsPolicy, PolicyView}
use Rattle.rbac_model.proofs.BindingPlaces.{of_some_binding, places_rise}
use Rattle.rbac_near.specs.Members.{AddsGroups, FindsMembers, Found, IsFirstLacking, IsForGroup, IsGrantOf, IsMemberOf, LackNoMember}
use Rattle.rbac_near.specs.Near.{LacksMember, RequestView}
use Rattle.rbac_near.specs.declared.near.Near.{Near}
use Rattle.rbac_near.proofs.Adding.{none_some, still_some}
use Rattle.rbac_near.proofs.LackingMember.{own_binding}

module _ (p : PolicyView) (q : RequestView) where
  -- no grant of the next binding lacks only a member
  pub finds_same : (count : ℕ) (m : Found) → LackNoMember p q count → FindsMembers p q count m → FindsMembers p q (count + 1) m
  finds_same count m none f = record {
    has = λ place n g group low of lacks. elim (cases_lt place count) [
      | inl less ↦ f.has place n g group less of lacks
      | inr high ↦ (let same : place ≡ count = omega (arith, low, high) in absurd (none n g (subst (λ (i : ℕ). IsGrantOf p i n g) same of) lacks.0))
    ];
    only = f.only;
  }

  module _ (ok : IsPolicy p) (count n : ℕ) (g : GrantView) (here : slice_get p.grants n ≡ Some g) (first : IsFirstLacking p q count n) (a b : Found)
      (f : FindsMembers p q count a) (adds : AddsGroups n g.binding.subjects a b) where
    there : slice_get p.held.bindings count ≡ Some g.binding
    there = first.of_binding.2 ∙ ap (λ (x : GrantView). Some x.binding) (same_Some first.of_binding.0 g (sym first.of_binding.1 ∙ here))

    -- no earlier grant to the group lacks only a member, because no near grant to it was found
    none_earlier : (group : Text) → get text_cmp a group ≡ None → (m : ℕ) (z : GrantView) → m < n → slice_get p.grants m ≡ Some z → LacksMember q group z → ⊥
    none_earlier group none m z low at lacks =
        let place = of_some_binding p ok m (slice_get_within p.grants m z at) in
        let le : place.0 ≤ count = places_rise p ok m n place.0 count (omega (arith, low)) place.1 first.of_binding in
        elim (cases_lt place.0 count) [
          | inl less ↦ none_some (get text_cmp a group) none (f.has place.0 m z group less (at, place.1) lacks)
          | inr high ↦ (let same : place.0 ≡ count = omega (arith, le, high) in first.first m z low (at, subst (λ (i : ℕ). IsOfBinding p m i) same place.1) lacks.0)
        ]

    -- the entry that is added is the first near grant to its group
    new_member : (group : Text) (y : Near) → get text_cmp a group ≡ None → IsForGroup n g.binding.subjects group y → IsMemberOf p q group y
    new_member group y none for =
        let subjects = g.binding.subjects in
        let at = for.2.here in
        let i = y.subject_place in
        let among : Contains subjects (ForGroup group) = (i, slice_get_within subjects i (ForGroup group) at, get_or_from_slice_get subjects i (ForGroup group) (ForGroup group) at) in
        let grant : IsFirstAt (LacksMember q group) p.grants n g = record {
          here = here;
          holds = (first.lacks g here, among);
          none_before = λ m z low at lacks. none_earlier group none m z low at lacks;
        } in
        (g, subst (λ (k : ℕ). IsFirstAt (LacksMember q group) p.grants k g) (sym for.1) grant, (for.0, refl, for.2))

    pub finds_more : FindsMembers p q (count + 1) b
    finds_more = record {
      has = λ place m z group low of lacks. elim (cases_lt place count) [
        | inl less ↦ still_some (get text_cmp a group) (get text_cmp b group) (adds.kept group) (f.has place m z group less of lacks)
        | inr high ↦ (let same : place ≡ count = omega (arith, low, high) in
            let own : z.binding ≡ g.binding = own_binding p m count z g.binding of.0 (subst (λ (i : ℕ). IsOfBinding p m i) same of.1) there in
            adds.has group (subst (λ (x : Binding). Contains x.subjects (ForGroup group)) own lacks.1))
      ];
      only = λ t y e. elim (adds.only t y e) [
        | inl old ↦ f.only t y old
        | inr new ↦ new_member t y new.0 new.1
      ];
    }
