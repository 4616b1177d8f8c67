-- The near grants of a binding that names who asks, one grant after another.
use Rattle.std.proofs.Common.{◌≡◌, ◌≢◌, ◌∙◌, ◌≤◌, ◌<◌, ◌+◌, ◌++◌, ◌∷◌, ◌↔◌, ◌⊎◌, [], ℕ, List, Option, Some, None, Contains, slice_get, inl, inr, refl, sym, ap, ap₂, subst, arith}
use Rattle.std.proofs.lemmas.Bool.{cases_lt}
use Rattle.std.proofs.lemmas.List.Elements.{Contains-append_left, Contains-push, Contains-push_cases}
use Rattle.std.proofs.lemmas.Option.{none-some, same_Some, slice_get_within, get_or_from_slice_get}
use Rattle.rbac_terms.specs.Granting.{Names}
use Rattle.rbac_terms.specs.declared.granting.Binding.{Binding}
use Rattle.rbac_terms.specs.declared.granting.Subject.{Subject}
use Rattle.rbac_model.specs.Lists.{IsFirstAt}
use Rattle.rbac_model.specs.Policies.{BindingNames, GrantView, IsOfBinding, PolicyView}
use Rattle.rbac_model.proofs.Firsts.{one_place}
use Rattle.rbac_near.specs.Named.{IsNamedOf}
use Rattle.rbac_near.specs.Near.{IsNear, IsToldBy, Lacks, LacksPart, RequestView}
use Rattle.rbac_near.specs.declared.near.Missing.{Missing}
use Rattle.rbac_near.specs.declared.near.Missing.TheVariants.{Namespace, Verb, Group, Subresource, Name, Member}
use Rattle.rbac_near.specs.declared.near.Near.{Near}

-- the subject at that place is the first of the binding that names who asks
abbrev pub IsFirstNaming : RequestView → Binding → ℕ → Type 0
IsFirstNaming q b i = (s : Subject) × IsFirstAt (λ s. Names s b.namespace q.who) b.subjects i s

-- new has what old has, and what is near by the grants of the binding below that number
abbrev pub AreAdded : PolicyView → RequestView → ℕ → ℕ → List Near → List Near → Type 0
AreAdded p q place upto old new = (x : Near) → Contains new x ↔ (Contains old x ⊎ (IsNamedOf p q place x × (x.number < upto)))

module _ (p : PolicyView) (q : RequestView) where
  -- a grant of a binding that names who asks, told by the first subject that does, is near by what it lacks
  is_near : (m : Missing) (g : GrantView) (n i : ℕ) → slice_get p.grants n ≡ Some g → BindingNames g.binding q.who → IsFirstNaming q g.binding i → LacksPart q m g
      → IsNear p q (record { missing = m; number = n; subject_place = i }) × (m ≢ Member)
  is_near Namespace g n i here named by l = (record { grant = g; here = here; lacks = (named, l); told = by }, λ e. let both : Namespace ≡ Member = e in cc)
  is_near Verb g n i here named by l = (record { grant = g; here = here; lacks = (named, l); told = by }, λ e. let both : Verb ≡ Member = e in cc)
  is_near Group g n i here named by l = (record { grant = g; here = here; lacks = (named, l); told = by }, λ e. let both : Group ≡ Member = e in cc)
  is_near Subresource g n i here named by l = (record { grant = g; here = here; lacks = (named, l); told = by }, λ e. let both : Subresource ≡ Member = e in cc)
  is_near Name g n i here named by l = (record { grant = g; here = here; lacks = (named, l); told = by }, λ e. let both : Name ≡ Member = e in cc)
  is_near Member g n i here named by l = absurd l

  -- where something else than a member is missing, the binding names who asks
  parts_at : (m : Missing) (g : GrantView) (n i : ℕ) → m ≢ Member → Lacks q m g → IsToldBy p q m g n i → BindingNames g.binding q.who × IsFirstNaming q g.binding i × LacksPart q m g
  parts_at Namespace g n i not l told = (l.0, told, l.1)
  parts_at Verb g n i not l told = (l.0, told, l.1)
  parts_at Group g n i not l told = (l.0, told, l.1)
  parts_at Subresource g n i not l told = (l.0, told, l.1)
  parts_at Name g n i not l told = (l.0, told, l.1)
  parts_at Member g n i not l told = absurd (not refl)

  module _ (place : ℕ) (b : Binding) (there : slice_get p.held.bindings place ≡ Some b) where
    own : (n : ℕ) (g : GrantView) → slice_get p.grants n ≡ Some g → IsOfBinding p n place → g.binding ≡ b
    own n g here of = ap (λ (x : GrantView). x.binding) (same_Some g of.0 (sym here ∙ of.1)) ∙ same_Some of.0.binding b (sym of.2 ∙ there)

    -- a binding that doesn't name who asks has no such near grant
    pub none_named : ¬ BindingNames b q.who → (x : Near) → IsNamedOf p q place x → ⊥
    none_named not x (near, other, of) =
        let parts = parts_at x.missing near.grant x.number x.subject_place other near.lacks near.told in
        not (subst (λ (v : Binding). BindingNames v q.who) (own x.number near.grant near.here of) parts.0)

    module _ (i : ℕ) (by : IsFirstNaming q b i) where
      named : BindingNames b q.who
      named = (i, by.0, slice_get_within b.subjects i by.0 by.1.here, get_or_from_slice_get b.subjects i by.0 by.0 by.1.here, by.1.holds)

      module _ (n : ℕ) (g : GrantView) (here : slice_get p.grants n ≡ Some g) (of : IsOfBinding p n place) where
        is_named_of : (m : Missing) → LacksPart q m g → IsNamedOf p q place (record { missing = m; number = n; subject_place = i })
        is_named_of m l =
            let same = sym (own n g here of) in
            let near = is_near m g n i here (subst (λ (v : Binding). BindingNames v q.who) same named) (subst (λ (v : Binding). IsFirstNaming q v i) same by) l in
            (near.0, near.1, of)

        -- what is near by this grant lacks this of it, and is told by this subject
        named_at : (x : Near) → IsNamedOf p q place x → x.number ≡ n → LacksPart q x.missing g × (x ≡ record { missing = x.missing; number = n; subject_place = i })
        named_at x (near, other, at) e =
            let parts = parts_at x.missing near.grant x.number x.subject_place other near.lacks near.told in
            let grant : near.grant ≡ g = same_Some near.grant g (sym near.here ∙ ap (slice_get p.grants) e ∙ here) in
            let mine : IsFirstNaming q b x.subject_place = subst (λ (v : Binding). IsFirstNaming q v x.subject_place) (own x.number near.grant near.here at) parts.1 in
            let places : x.subject_place ≡ i = one_place (λ s. Names s b.namespace q.who) b.subjects x.subject_place i mine.0 by.0 mine.1 by.1 in
            (subst (λ (v : GrantView). LacksPart q x.missing v) grant parts.2, ap₂ (λ (k : ℕ) (j : ℕ). (let y : Near = record { missing = x.missing; number = k; subject_place = j } in y)) e places)

      module _ (n : ℕ) (g : GrantView) (here : slice_get p.grants n ≡ Some g) (of : IsOfBinding p n place) (o : Option Missing)
          (tells : (m : Missing) → (o ≡ Some m) ↔ LacksPart q m g) (old mid : List Near) (added : AreAdded p q place n old mid) where
        -- the grant isn't near
        pub added_none : o ≡ None → AreAdded p q place (n + 1) old mid
        added_none none x = (
          λ w. elim ((added x).0 w) [
            | inl h ↦ inl h
            | inr h ↦ inr (h.0, omega (arith, h.1))
          ],
          λ w. elim w [
            | inl h ↦ (added x).1 (inl h)
            | inr h ↦ elim (cases_lt x.number n) [
              | inl less ↦ (added x).1 (inr (h.0, less))
              | inr high ↦ (let same : x.number ≡ n = omega (arith, high, h.1) in
                  absurd (none-some x.missing (sym none ∙ (tells x.missing).1 (named_at n g here of x h.0 same).0)))
            ]
          ],
        )

        -- the grant is near by what it lacks
        pub added_one : (m : Missing) → o ≡ Some m → AreAdded p q place (n + 1) old (mid ++ record { missing = m; number = n; subject_place = i } ∷ [])
        added_one m some x = (
          λ w. elim (Contains-push_cases mid (record { missing = m; number = n; subject_place = i }) x w) [
            | inl before ↦ elim ((added x).0 before) [
              | inl h ↦ inl h
              | inr h ↦ inr (h.0, omega (arith, h.1))
            ]
            | inr e ↦ inr (subst (λ (y : Near). IsNamedOf p q place y × (y.number < n + 1)) e (is_named_of n g here of m ((tells m).0 some), omega arith))
          ],
          λ w. elim w [
            | inl h ↦ Contains-append_left mid (record { missing = m; number = n; subject_place = i } ∷ []) x ((added x).1 (inl h))
            | inr h ↦ elim (cases_lt x.number n) [
              | inl less ↦ Contains-append_left mid (record { missing = m; number = n; subject_place = i } ∷ []) x ((added x).1 (inr (h.0, less)))
              | inr high ↦ (let same : x.number ≡ n = omega (arith, high, h.1) in
                  let at = named_at n g here of x h.0 same in
                  let what : x.missing ≡ m = same_Some x.missing m (sym ((tells x.missing).1 at.0) ∙ some) in
                  let is : x ≡ record { missing = m; number = n; subject_place = i } = at.1 ∙ ap (λ (k : Missing). (let y : Near = record { missing = k; number = n; subject_place = i } in y)) what in
                  subst (λ (y : Near). Contains (mid ++ record { missing = m; number = n; subject_place = i } ∷ []) y) (sym is) (Contains-push mid (record { missing = m; number = n; subject_place = i })))
            ]
          ],
        )

      module _ (from end : ℕ) (between : (n at : ℕ) → IsOfBinding p n at → ((from ≤ n) × (n < end)) ↔ (at ≡ place)) (old new : List Near) where
        pub nothing_added : AreAdded p q place from old old
        nothing_added x = (
          λ h. inl h,
          λ w. elim w [
            | inl h ↦ h
            | inr h ↦ (let within = (between x.number place h.0.2).1 refl in absurd (omega (arith, within.0, h.1)))
          ],
        )

        pub all_added : (upto : ℕ) → end ≤ upto → AreAdded p q place upto old new → (x : Near) → Contains new x ↔ (Contains old x ⊎ IsNamedOf p q place x)
        all_added upto low added x = (
          λ w. elim ((added x).0 w) [
            | inl h ↦ inl h
            | inr h ↦ inr h.0
          ],
          λ w. elim w [
            | inl h ↦ (added x).1 (inl h)
            | inr h ↦ (let within = (between x.number place h.2).1 refl in (added x).1 (inr (h, omega (arith, within.1, low))))
          ],
        )

  -- ---- binding by binding

  -- the near grants of one more binding
  pub named_of_more : (count : ℕ) (old new : List Near) → ((x : Near) → Contains old x ↔ ((place : ℕ) × (place < count) × IsNamedOf p q place x))
      → ((x : Near) → Contains new x ↔ (Contains old x ⊎ IsNamedOf p q count x)) → (x : Near) → Contains new x ↔ ((place : ℕ) × (place < count + 1) × IsNamedOf p q place x)
  named_of_more count old new are added x = (
    λ w. elim ((added x).0 w) [
      | inl h ↦ (let of = (are x).0 h in (of.0, omega (arith, of.1), of.2))
      | inr h ↦ (count, omega arith, h)
    ],
    λ w. elim (cases_lt w.0 count) [
      | inl less ↦ (added x).1 (inl ((are x).1 (w.0, less, w.2)))
      | inr high ↦ (let same : w.0 ≡ count = omega (arith, high, w.1) in (added x).1 (inr (subst (λ (i : ℕ). IsNamedOf p q i x) same w.2)))
    ],
  )
