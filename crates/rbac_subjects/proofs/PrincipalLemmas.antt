-- the principals of entries, and those of the bindings without entries
use Rattle.std.proofs.Common.{◌≡◌, ◌≢◌, ℕ, ◌+◌, ◌<◌, ◌≤◌, Bool, List, [], ◌∷◌, ◌++◌, length, get_or, get_or-set_other, get_or-set_same, set, replicate, slice_get, All, Any, Contains, IsTrue, ap, sym, ◌∙◌, refl, subst, arith, inl, inr, ◌⊎◌, ◌↔◌, true, false}
use Rattle.std.specs.Prelude.{Some}
use Rattle.std.specs.List.{filter_map}
use Rattle.std.proofs.Math.ListN.{get_or-eq_default}
use Rattle.std.proofs.lemmas.Bool.{cases_eq, cases_lt}
use Rattle.std.proofs.lemmas.List.{get_or-replicate, get_or_default, length-replicate}
use Rattle.std.proofs.lemmas.List.Elements.{Contains-append_cases, Contains-append_left, Contains-append_right, Contains-push, Contains-push_cases}
use Rattle.std.proofs.lemmas.Option.{same_Some, slice_get_within, get_or_from_slice_get, slice_get-get_or}
use Rattle.rbac_terms.specs.Text.{Text}
use Rattle.rbac_terms.specs.Principals.{Who, given_of, who_key, who_name}
use Rattle.rbac_terms.specs.Granting.{subject_principal}
use Rattle.rbac_terms.specs.declared.granting.Binding.{Binding}
use Rattle.rbac_model.specs.Policies.{Held, HasSubject, PolicyView}
use Rattle.rbac_model.proofs.SubjectPrincipals.{IsPlain, key_of_standing, one_of_key, pickable, picked, stands_by_key}
use Rattle.rbac_subjects.specs.declared.subject_keys.Keyed.{Keyed}
use Rattle.rbac_subjects.specs.Keyed.{AreKeyed, HasEntry, IsListed, keyed}

-- ---- the principals of entries

abbrev pub AreListed : List Keyed → List Who → Type 0
AreListed xs found = (who : Who) → Contains found who ↔ IsListed xs who

pub none_listed : AreListed [] []
none_listed who = (λ c. absurd (omega (arith, c.1)), λ l. absurd (let w = l.3 in omega (arith, w.1)))

-- one entry more
module _ (xs : List Keyed) (y : Keyed) (found : List Who) (are : AreListed xs found) where
  listed_cases : (who : Who) → IsListed (xs ++ y ∷ []) who → IsListed xs who ⊎ (IsPlain who × (who_key who ≡ y.key))
  listed_cases who l = elim (Contains-push_cases xs y (keyed (who_key who) l.2) l.3) [
    | inl c ↦ inl (l.0, l.1, l.2, c)
    | inr e ↦ inr ((l.0, l.1), ap (λ (x : Keyed). x.key) (sym e))
  ]

  listed_before : (who : Who) → IsListed xs who → IsListed (xs ++ y ∷ []) who
  listed_before who l = (l.0, l.1, l.2, Contains-append_left xs (y ∷ []) (keyed (who_key who) l.2) l.3)

  listed_now : (who : Who) → IsPlain who → who_key who ≡ y.key → IsListed (xs ++ y ∷ []) who
  listed_now who plain e = (plain.0, plain.1, y.place, subst (λ (key : Text). Contains (xs ++ y ∷ []) (keyed key y.place)) (sym e) (Contains-push xs y))

  -- its principal is found already
  pub listed_same : Any (λ who. who_key who ≡ y.key) found → AreListed (xs ++ y ∷ []) found
  listed_same a who = (
    λ c. listed_before who ((are who).0 c),
    λ l. elim (listed_cases who l) [
      | inl o ↦ (are who).1 o
      | inr w ↦
          let has : Contains found a.1 = (a.0, a.2, a.3) in
          subst (Contains found) (sym (one_of_key who a.1 w.0.1 ((are a.1).0 has).1 (w.1 ∙ sym a.4))) has
    ],
  )

  -- or nobody has its key
  pub listed_none : ((who : Who) → who_name who ≢ [] → who_key who ≢ y.key) → AreListed (xs ++ y ∷ []) found
  listed_none none who = (
    λ c. listed_before who ((are who).0 c),
    λ l. elim (listed_cases who l) [ inl o ↦ (are who).1 o | inr w ↦ absurd (none who w.0.0 w.1) ],
  )

  -- or its principal is added
  pub listed_more : (w : Who) → who_key w ≡ y.key → IsPlain w → AreListed (xs ++ y ∷ []) (found ++ w ∷ [])
  listed_more w e plain who = (
    λ c. elim (Contains-push_cases found w who c) [
      | inl o ↦ listed_before who ((are who).0 o)
      | inr same ↦ subst (IsListed (xs ++ y ∷ [])) same (listed_now w plain e)
    ],
    λ l. elim (listed_cases who l) [
      | inl o ↦ Contains-append_left found (w ∷ []) who ((are who).1 o)
      | inr v ↦ subst (Contains (found ++ w ∷ [])) (one_of_key w who plain.1 v.0.1 (e ∙ sym v.1)) (Contains-push found w)
    ],
  )

-- ---- the marks of bindings that have entries

abbrev pub AreMarked : List Keyed → List Bool → Type 0
AreMarked xs marks = (place : ℕ) → IsTrue (get_or marks place false) ↔ HasEntry xs place

-- of so many bindings none is marked
pub no_mark : (count place : ℕ) → IsTrue (get_or (replicate count false) place false) → ⊥
no_mark count place is = elim (cases_lt place count) [
  | inl low ↦ (let both : false ≡ true = sym (get_or-replicate count place false false low) ∙ is in cc)
  | inr high ↦ (let both : false ≡ true = sym (get_or-eq_default (replicate count false) false (let len = length-replicate count false in omega (arith, high, len))) ∙ is in cc)
]

marked_or_not : (b : Bool) → IsTrue b ⊎ (b ≡ false)
marked_or_not true = inl refl
marked_or_not false = inr refl

pub none_marked : (count : ℕ) → AreMarked [] (replicate count false)
none_marked count place = (λ t. absurd (no_mark count place t), λ h. absurd (let w = h.1 in omega (arith, w.1)))

pub one_marked : (xs : List Keyed) (y : Keyed) (marks : List Bool) → y.place < length marks → AreMarked xs marks → AreMarked (xs ++ y ∷ []) (set marks y.place true)
one_marked xs y marks within are place = elim (cases_eq place y.place) [
  | inl same ↦ (
    λ _. (y.key, subst (λ (k : ℕ). Contains (xs ++ y ∷ []) (keyed y.key k)) (sym same) (Contains-push xs y)),
    λ _. subst (λ (k : ℕ). IsTrue (get_or (set marks y.place true) k false)) (sym same) (get_or-set_same marks y.place true false within),
  )
  | inr other ↦ (let kept = get_or-set_other marks y.place place true false other in (
    λ t. (let h = (are place).0 (sym kept ∙ t) in (h.0, Contains-append_left xs (y ∷ []) (keyed h.0 place) h.1)),
    λ h. kept ∙ (are place).1 (elim (Contains-push_cases xs y (keyed h.0 place) h.1) [
      | inl c ↦ (h.0, c)
      | inr e ↦ absurd (other (ap (λ (x : Keyed). x.place) (sym e)))
    ]),
  ))
]

-- ---- the principals of the bindings without entries

-- a subject of one of so many first bindings that aren't marked stands for the principal
abbrev pub StandsBelow : List Binding → List Bool → ℕ → Who → Type 0
StandsBelow bs marks count who = (at : ℕ) × (b : Binding) × (at < count) × (slice_get bs at ≡ Some b)
    × (IsTrue (get_or marks at false) → ⊥) × Any (λ s. subject_principal b.namespace s ≡ Some who) b.subjects

abbrev pub AreFound : List Keyed → List Binding → List Bool → ℕ → List Who → Type 0
AreFound xs bs marks count found = (who : Who) → Contains found who ↔ (IsListed xs who ⊎ StandsBelow bs marks count who)

module _ (xs : List Keyed) (bs : List Binding) (marks : List Bool) where
  pub found_listed : (found : List Who) → AreListed xs found → AreFound xs bs marks 0 found
  found_listed found are who = (
    λ c. inl ((are who).0 c),
    λ d. elim d [ inl l ↦ (are who).1 l | inr s ↦ absurd (let low = s.2 in omega (arith, low)) ],
  )

  module _ (count : ℕ) (b : Binding) (there : slice_get bs count ≡ Some b) (found : List Who) (are : AreFound xs bs marks count found) where
    stands_later : (who : Who) → StandsBelow bs marks count who → StandsBelow bs marks (count + 1) who
    stands_later who s = (s.0, s.1, (let low = s.2 in omega (arith, low)), s.3, s.4, s.5)

    stands_cases : (who : Who) → StandsBelow bs marks (count + 1) who
        → StandsBelow bs marks count who ⊎ ((IsTrue (get_or marks count false) → ⊥) × Any (λ s. subject_principal b.namespace s ≡ Some who) b.subjects)
    stands_cases who s = elim (cases_lt s.0 count) [
      | inl low ↦ inl (s.0, s.1, low, s.3, s.4, s.5)
      | inr high ↦
          let same : s.0 ≡ count = (let low = s.2 in omega (arith, high, low)) in
          let subject : s.1 ≡ b = same_Some s.1 b (sym s.3 ∙ ap (slice_get bs) same ∙ there) in
          inr (
            subst (λ (k : ℕ). IsTrue (get_or marks k false) → ⊥) same s.4,
            subst (λ (c : Binding). Any (λ t. subject_principal c.namespace t ≡ Some who) c.subjects) subject s.5,
          )
    ]

    -- a marked binding is passed over
    pub found_same : IsTrue (get_or marks count false) → AreFound xs bs marks (count + 1) found
    found_same marked who = (
      λ c. elim ((are who).0 c) [ inl l ↦ inl l | inr s ↦ inr (stands_later who s) ],
      λ d. (are who).1 (elim d [
        | inl l ↦ inl l
        | inr s ↦ elim (stands_cases who s) [ inl o ↦ inr o | inr w ↦ absurd (w.0 marked) ]
      ]),
    )

    -- and the principals of another are added
    pub found_more : (IsTrue (get_or marks count false) → ⊥) → AreFound xs bs marks (count + 1) (found ++ filter_map (subject_principal b.namespace) b.subjects)
    found_more unmarked who =
        let added = filter_map (subject_principal b.namespace) b.subjects in (
          λ c. elim (Contains-append_cases found added who c) [
            | inl o ↦ elim ((are who).0 o) [ inl l ↦ inl l | inr s ↦ inr (stands_later who s) ]
            | inr a ↦ inr (count, b, omega arith, there, unmarked, picked (subject_principal b.namespace) who b.subjects a)
          ],
          λ d. elim d [
            | inl l ↦ Contains-append_left found added who ((are who).1 (inl l))
            | inr s ↦ elim (stands_cases who s) [
              | inl o ↦ Contains-append_left found added who ((are who).1 (inr o))
              | inr w ↦ Contains-append_right found added who (pickable (subject_principal b.namespace) who b.subjects w.1)
            ]
          ],
        )

-- all bindings are passed
module _ (p : PolicyView) (xs : List Keyed) (keys : AreKeyed p xs) where
  -- an entry's key is that of a subject, which stands for the principal with the key
  listed_stands : (who : Who) → IsListed xs who → HasSubject p.held who
  listed_stands who l =
      let at = ((keys.exact (keyed (who_key who) l.2)).0 l.3).1 in
      let b = at.0 in
      let s = at.2 in (
        l.2,
        b,
        slice_get_within p.held.bindings l.2 b at.1,
        get_or_from_slice_get p.held.bindings l.2 b b at.1,
        (s.0, s.1, s.2, s.3, stands_by_key s.1 b.namespace who (l.0, l.1) s.4),
      )

  -- in a binding with an entry, each subject's key is listed
  stands_listed : (who : Who) (h : HasSubject p.held who) → HasEntry xs h.0 → IsListed xs who
  stands_listed who h entry =
      let s = h.4 in
      let key = key_of_standing s.1 h.1.namespace who s.4 in
      let grants = ((keys.exact (keyed entry.0 h.0)).0 entry.1).0 in
      let there : slice_get p.held.bindings h.0 ≡ Some h.1 = slice_get-get_or p.held.bindings h.0 h.1 h.2 ∙ ap Some h.3 in
      (key.0.0, key.0.1, h.0, (keys.exact (keyed (who_key who) h.0)).1 (grants, (h.1, there, (s.0, s.1, s.2, s.3, key.1))))

  pub found_all : (marks : List Bool) (count : ℕ) (found : List Who) → length p.held.bindings ≤ count → AreMarked xs marks → AreFound xs p.held.bindings marks count found
      → (who : Who) → Contains found who ↔ HasSubject p.held who
  found_all marks count found all marked are who = (
    λ c. elim ((are who).0 c) [
      | inl l ↦ listed_stands who l
      | inr s ↦ (s.0, s.1, slice_get_within p.held.bindings s.0 s.1 s.3, get_or_from_slice_get p.held.bindings s.0 s.1 s.1 s.3, s.5)
    ],
    λ h. (are who).1 (elim (marked_or_not (get_or marks h.0 false)) [
      | inl is ↦ inl (stands_listed who h ((marked h.0).0 is))
      | inr isnt ↦ inr (
        h.0,
        h.1,
        (let low = h.2 in omega (arith, low, all)),
        slice_get-get_or p.held.bindings h.0 h.1 h.2 ∙ ap Some h.3,
        (λ is. let both : true ≡ false = sym is ∙ isnt in cc),
        h.4,
      )
    ]),
  )

-- whoever a subject stands for is given no groups
pub none_given : (h : Held) (found : List Who) → ((who : Who) → Contains found who ↔ HasSubject h who) → All (λ who. given_of who ≡ []) found
none_given h found exact i d lt =
    let who = get_or found i d in
    let has = (exact who).0 (i, lt, get_or_default found i who d lt) in
    (key_of_standing has.4.1 has.1.namespace who has.4.4).0.1
