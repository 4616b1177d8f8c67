-- The near grants of bindings that name who asks, and those to groups, are all near grants.
use Rattle.std.proofs.Common.{◌≡◌, ◌≢◌, ◌⊎◌, ◌↔◌, ◌++◌, ◌<◌, ◌∙◌, ℕ, List, Option, Some, None, IsSome, Contains, map, length, option_map, slice_get, inl, inr, refl, sym, ap, ap₂, subst, false, true}
use Rattle.std.specs.BTreeMap.{get, IsOrdered}
use Rattle.std.specs.Ordering.{is_eq}
use Rattle.std.proofs.lemmas.Cmp.{nat_list_cmp_total}
use Rattle.std.proofs.lemmas.List.Elements.{Contains-append_cases, Contains-append_left, Contains-append_right}
use Rattle.std.proofs.lemmas.Map.Entries.{place_from_lookup, btree_map_get_place}
use Rattle.std.proofs.lemmas.Option.{same_Some, slice_get_read, slice_get-map, slice_get_within, get_or_from_slice_get}
use Rattle.rbac_terms.specs.Text.{Text, text_cmp}
use Rattle.rbac_terms.specs.declared.granting.Subject.TheVariants.{Group as ForGroup}
use Rattle.rbac_model.specs.Lists.{IsFirstAt}
use Rattle.rbac_model.specs.Policies.{GrantView, IsPolicy, PolicyView}
use Rattle.rbac_model.proofs.BindingPlaces.{of_some_binding}
use Rattle.rbac_model.proofs.Firsts.{one_first, one_place}
use Rattle.rbac_near.specs.Members.{FindsMembers, Found, IsMemberOf}
use Rattle.rbac_near.specs.Named.{AreNamedUpTo}
use Rattle.rbac_near.specs.Near.{IsNear, IsToldBy, Lacks, LacksMember, RequestView}
use Rattle.rbac_near.specs.declared.near.Missing.{Missing}
use Rattle.rbac_near.specs.declared.near.Missing.TheVariants.{Namespace, Verb, Group, Subresource, Name, Member}
use Rattle.rbac_near.specs.declared.near.Near.{Near}

-- the near grants of a map's entries
abbrev pub near_in : List (Text × Near) → List Near
near_in es = map (λ e. e.1) es

mapped : (o : Option (Text × Near)) (x : Near) → option_map (λ e. e.1) o ≡ Some x → (e : Text × Near) × (o ≡ Some e) × (e.1 ≡ x)
mapped None x e = absurd (let both : None ≡ Some x = e in cc)
mapped (Some y) x e = (y, refl, same_Some y.1 x e)

some_is : {X : Type 0} (o : Option X) → IsSome o → (x : X) × (o ≡ Some x)
some_is None is = absurd (let both : false ≡ true = is in cc)
some_is (Some x) is = (x, refl)

-- a member is missing, or something else
is_member : (m : Missing) → (m ≡ Member) ⊎ (m ≢ Member)
is_member Namespace = inr (λ e. cc)
is_member Verb = inr (λ e. cc)
is_member Group = inr (λ e. cc)
is_member Subresource = inr (λ e. cc)
is_member Name = inr (λ e. cc)
is_member Member = inl refl

module _ (p : PolicyView) (q : RequestView) where
  -- a first near grant to a group is a near grant
  near_member : (group : Text) (x : Near) → IsMemberOf p q group x → IsNear p q x
  near_member group x (g, first, for) = record {
    grant = g;
    here = first.here;
    lacks = subst (λ (m : Missing). Lacks q m g) (sym for.0) first.holds.0;
    told = subst (λ (m : Missing). IsToldBy p q m g x.number x.subject_place) (sym for.0) (group, first, for.2);
  }

  -- and the only one to it
  one_member : (group : Text) (x y : Near) → IsMemberOf p q group x → IsMemberOf p q group y → x ≡ y
  one_member group x y (g, first, for) (h, other, from) =
      let numbers : x.number ≡ y.number = one_place (LacksMember q group) p.grants x.number y.number g h first other in
      let grants : g ≡ h = one_first (LacksMember q group) p.grants x.number y.number g h first other in
      let mine : IsFirstAt (λ s. s ≡ ForGroup group) h.binding.subjects x.subject_place (ForGroup group) =
      subst (λ (v : GrantView). IsFirstAt (λ s. s ≡ ForGroup group) v.binding.subjects x.subject_place (ForGroup group)) grants for.2 in
      let places : x.subject_place ≡ y.subject_place = one_place (λ s. s ≡ ForGroup group) h.binding.subjects x.subject_place y.subject_place (ForGroup group) (ForGroup group) mine from.2 in
      let of : Missing → ℕ → ℕ → Near = λ m n i. record { missing = m; number = n; subject_place = i } in
      ap (λ (m : Missing). of m x.number x.subject_place) (for.0 ∙ sym from.0) ∙ ap₂ (λ (n : ℕ) (i : ℕ). of y.missing n i) numbers places

  -- a near grant where a member is missing is the first to some group
  member_told : (m : Missing) (g : GrantView) (n i : ℕ) → m ≡ Member → IsToldBy p q m g n i → IsToldBy p q Member g n i
  member_told m g n i e told = subst (λ (k : Missing). IsToldBy p q k g n i) e told

  module _ (ok : IsPolicy p) (named : List Near) (are : AreNamedUpTo p q (length p.held.bindings) named)
      (m : Found) (up : IsOrdered text_cmp m) (f : FindsMembers p q (length p.held.bindings) m) where
    from_list : (x : Near) → Contains (near_in m.entries) x → IsNear p q x
    from_list x c =
        let e = mapped (slice_get m.entries c.0) x (sym (slice_get-map (λ e. e.1) m.entries c.0) ∙ slice_get_read (near_in m.entries) (length (near_in m.entries)) c.0 x refl c.1 (sym c.2)) in
        let at = btree_map_get_place nat_list_cmp_total m c.0 e.0.0 e.0.1 up e.1 in
        subst (λ (y : Near). IsNear p q y) e.2 (near_member e.0.0 e.0.1 (f.only e.0.0 e.0.1 at))

    in_list : (t : Text) (y : Near) → get text_cmp m t ≡ Some y → Contains (near_in m.entries) y
    in_list t y e =
        let at = place_from_lookup (λ k. is_eq (text_cmp t k)) m.entries y e in
        let there : slice_get (near_in m.entries) at.0 ≡ Some y = slice_get-map (λ e. e.1) m.entries at.0 ∙ ap (option_map (λ e. e.1)) at.2 in
        (at.0, slice_get_within (near_in m.entries) at.0 y there, get_or_from_slice_get (near_in m.entries) at.0 y y there)

    listed : (x : Near) → IsNear p q x → Contains (named ++ near_in m.entries) x
    listed x near =
        let place = of_some_binding p ok x.number (slice_get_within p.grants x.number near.grant near.here) in
        let within : place.0 < length p.held.bindings = slice_get_within p.held.bindings place.0 place.1.0.binding place.1.2 in
        elim (is_member x.missing) [
          | inr other ↦ Contains-append_left named (near_in m.entries) x ((are x).1 (place.0, within, (near, other, place.1)))
          | inl member ↦ (let told = member_told x.missing near.grant x.number x.subject_place member near.told in
              let mine : IsMemberOf p q told.0 x = (near.grant, told.1, (member, refl, told.2)) in
              let found = some_is (get text_cmp m told.0) (f.has place.0 x.number near.grant told.0 within (near.here, place.1) told.1.holds) in
              subst (λ (y : Near). Contains (named ++ near_in m.entries) y) (one_member told.0 found.0 x (f.only told.0 found.0 found.1) mine)
              (Contains-append_right named (near_in m.entries) found.0 (in_list told.0 found.0 found.1)))
        ]

    pub all_near : (x : Near) → Contains (named ++ near_in m.entries) x ↔ IsNear p q x
    all_near x = (
      λ w. elim (Contains-append_cases named (near_in m.entries) x w) [
        | inl h ↦ ((are x).0 h).2.0
        | inr h ↦ from_list x h
      ],
      λ near. listed x near,
    )
