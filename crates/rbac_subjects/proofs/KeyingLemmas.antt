-- the list of keys, binding after binding
use Rattle.std.proofs.Common.{◌≡◌, ℕ, ◌+◌, ◌<◌, ◌≤◌, List, [], ◌∷◌, ◌++◌, length, slice_get, Contains, ap, sym, ◌∙◌, subst, arith, inl, inr, ◌⊎◌, ◌↔◌}
use Rattle.std.specs.Prelude.{Some}
use Rattle.std.specs.List.Sorted.{IsPermutation, IsSorted}
use Rattle.std.proofs.lemmas.Bool.{cases_lt}
use Rattle.std.proofs.lemmas.List.Elements.{Contains-append_left, Contains-push, Contains-push_cases}
use Rattle.std.proofs.lemmas.List.Sorted.{Contains-permutation, IsPermutation-sym}
use Rattle.std.proofs.lemmas.Option.{same_Some, slice_get_within, get_or_from_slice_get, slice_get-get_or}
use Rattle.rbac_terms.specs.Text.{Text}
use Rattle.rbac_terms.specs.Granting.{IsSubjectKey}
use Rattle.rbac_terms.specs.declared.granting.Binding.{Binding}
use Rattle.rbac_terms.specs.declared.granting.Subject.{Subject}
use Rattle.rbac_model.specs.Policies.{PolicyView, IsPolicy, IsOfBinding}
use Rattle.rbac_model.proofs.BindingPlaces.{one_binding_place}
use Rattle.rbac_subjects.specs.declared.subject_keys.Keyed.{Keyed}
use Rattle.rbac_subjects.specs.Keyed.{keyed, keyed_cmp, IsKeyedAt, HasKeysOf, AreKeyed}
use Rattle.rbac_model.specs.Holders.{HasKey}

-- one of so many first subjects of the binding has the key
abbrev pub IsKeyAmong : Binding → ℕ → Text → Type 0
IsKeyAmong b count key = (at : ℕ) × (s : Subject) × (at < count) × (slice_get b.subjects at ≡ Some s) × IsSubjectKey s b.namespace key

-- new has what old has, and the keys of so many first subjects of the binding with its place
abbrev pub HasKeysBelow : List Keyed → List Keyed → Binding → ℕ → ℕ → Type 0
HasKeysBelow old new b place count = (x : Keyed) → Contains new x ↔ (Contains old x ⊎ ((x.place ≡ place) × IsKeyAmong b count x.key))

-- one of so many first grants belongs to the binding at that place
abbrev pub HasOneBelow : PolicyView → ℕ → ℕ → Type 0
HasOneBelow p count place = (n : ℕ) × (n < count) × IsOfBinding p n place

-- exactly the keys of the subjects of the bindings of so many first grants
abbrev pub AreKeyedBelow : PolicyView → ℕ → List Keyed → Type 0
AreKeyedBelow p count xs = (x : Keyed) → Contains xs x ↔ (HasOneBelow p count x.place × IsKeyedAt p.held.bindings x.key x.place)

module _ (old mid : List Keyed) (b : Binding) (place n : ℕ) (s : Subject) (there : slice_get b.subjects n ≡ Some s) (has : HasKeysBelow old mid b place n) where
  last_key : (key : Text) → IsKeyAmong b (n + 1) key → IsKeyAmong b n key ⊎ IsSubjectKey s b.namespace key
  last_key key k = elim (cases_lt k.0 n) [
    | inl l ↦ inl (k.0, k.1, l, k.3, k.4)
    | inr l ↦
        let same : k.0 ≡ n = omega (arith, l, k.2) in
        let subject : k.1 ≡ s = same_Some k.1 s (sym k.3 ∙ ap (slice_get b.subjects) same ∙ there) in
        inr (subst (λ (u : Subject). IsSubjectKey u b.namespace key) subject k.4)
  ]

  earlier_key : (key : Text) → IsKeyAmong b n key → IsKeyAmong b (n + 1) key
  earlier_key key k = (k.0, k.1, omega (arith, k.2), k.3, k.4)

  this_key : (key : Text) → IsSubjectKey s b.namespace key → IsKeyAmong b (n + 1) key
  this_key key k = (n, s, omega arith, there, k)

  pub keys_without : ((key : Text) → IsSubjectKey s b.namespace key → ⊥) → HasKeysBelow old mid b place (n + 1)
  keys_without none x = (
    λ c. elim ((has x).0 c) [ inl o ↦ inl o | inr w ↦ inr (w.0, earlier_key x.key w.1) ],
    λ d. (has x).1 (elim d [
      | inl o ↦ inl o
      | inr w ↦ elim (last_key x.key w.1) [ inl k ↦ inr (w.0, k) | inr k ↦ absurd (none x.key k) ]
    ]),
  )

  pub keys_with : (key : Text) (new : List Keyed) → ((k : Text) → IsSubjectKey s b.namespace k ↔ (k ≡ key)) → new ≡ mid ++ keyed key place ∷ [] → HasKeysBelow old new b place (n + 1)
  keys_with key new is made x = (
    λ c. elim (Contains-push_cases mid (keyed key place) x (subst (λ (l : List Keyed). Contains l x) made c)) [
      | inl o ↦ elim ((has x).0 o) [ inl q ↦ inl q | inr w ↦ inr (w.0, earlier_key x.key w.1) ]
      | inr e ↦ inr (ap (λ (y : Keyed). y.place) (sym e), this_key x.key ((is x.key).1 (ap (λ (y : Keyed). y.key) (sym e))))
    ],
    λ d. subst (λ (l : List Keyed). Contains l x) (sym made) (elim d [
      | inl o ↦ Contains-append_left mid (keyed key place ∷ []) x ((has x).1 (inl o))
      | inr w ↦ elim (last_key x.key w.1) [
        | inl k ↦ Contains-append_left mid (keyed key place ∷ []) x ((has x).1 (inr (w.0, k)))
        | inr k ↦
            let same : keyed key place ≡ x = ap (λ (t : Text). keyed t place) (sym ((is x.key).0 k)) ∙ ap (keyed x.key) (sym w.0) in
            subst (λ (y : Keyed). Contains (mid ++ keyed key place ∷ []) y) same (Contains-push mid (keyed key place))
      ]
    ]),
  )

-- all subjects of the binding are passed
module _ (b : Binding) (key : Text) where
  key_in : IsKeyAmong b (length b.subjects) key → HasKey b key
  key_in k = (k.0, k.1, k.2, get_or_from_slice_get b.subjects k.0 k.1 k.1 k.3, k.4)

  key_among : HasKey b key → IsKeyAmong b (length b.subjects) key
  key_among k = (k.0, k.1, k.2, slice_get-get_or b.subjects k.0 k.1 k.2 ∙ ap (λ (s : Subject). Some s) k.3, k.4)

pub keys_all : (old new : List Keyed) (b : Binding) (place count : ℕ) → count ≡ length b.subjects → HasKeysBelow old new b place count → HasKeysOf old new b place
keys_all old new b place count all has x =
    let below = subst (HasKeysBelow old new b place) all has x in (
      λ c. elim (below.0 c) [ inl o ↦ inl o | inr w ↦ inr (w.0, key_in b x.key w.1) ],
      λ d. below.1 (elim d [ inl o ↦ inl o | inr w ↦ inr (w.0, key_among b x.key w.1) ]),
    )

pub keyed_none : (p : PolicyView) → AreKeyedBelow p 0 []
keyed_none p x = (λ c. absurd (omega (arith, c.1)), λ w. absurd (omega (arith, w.0.1)))

-- one grant more, of the binding at that place
module _ (p : PolicyView) (ok : IsPolicy p) (count place : ℕ) (of : IsOfBinding p count place) (old : List Keyed) (below : AreKeyedBelow p count old) where
  this_or_earlier : (at : ℕ) → HasOneBelow p (count + 1) at → (at ≡ place) ⊎ HasOneBelow p count at
  this_or_earlier at has = elim (cases_lt has.0 count) [
    | inl low ↦ inr (has.0, low, has.2)
    | inr high ↦
        let same : has.0 ≡ count = omega (arith, high, has.1) in
        inl (one_binding_place p ok count at place (subst (λ (n : ℕ). IsOfBinding p n at) same has.2) of)
  ]

  pub has_later : (at : ℕ) → HasOneBelow p count at → HasOneBelow p (count + 1) at
  has_later at has = (has.0, omega (arith, has.1), has.2)

  pub has_this : HasOneBelow p (count + 1) place
  has_this = (count, omega arith, of)

  -- its keys are listed already
  pub keyed_same : HasOneBelow p count place → AreKeyedBelow p (count + 1) old
  keyed_same has x = (
    λ c. let w = (below x).0 c in (has_later x.place w.0, w.1),
    λ w. (below x).1 (elim (this_or_earlier x.place w.0) [
      | inl e ↦ (subst (HasOneBelow p count) (sym e) has, w.1)
      | inr earlier ↦ (earlier, w.1)
    ]),
  )

  -- or are added now
  module _ (b : Binding) (there : slice_get p.held.bindings place ≡ Some b) (new : List Keyed) (has : HasKeysOf old new b place) where
    key_here : (key : Text) → IsKeyedAt p.held.bindings key place → HasKey b key
    key_here key w = subst (λ (c : Binding). HasKey c key) (same_Some w.0 b (sym w.1 ∙ there)) w.2

    pub keyed_more : AreKeyedBelow p (count + 1) new
    keyed_more x = (
      λ c. elim ((has x).0 c) [
        | inl o ↦ let w = (below x).0 o in (has_later x.place w.0, w.1)
        | inr w ↦ (
          subst (HasOneBelow p (count + 1)) (sym w.0) has_this,
          subst (IsKeyedAt p.held.bindings x.key) (sym w.0) (b, there, w.1),
        )
      ],
      λ w. (has x).1 (elim (this_or_earlier x.place w.0) [
        | inl e ↦ inr (e, key_here x.key (subst (IsKeyedAt p.held.bindings x.key) e w.1))
        | inr earlier ↦ inl ((below x).1 (earlier, w.1))
      ]),
    )

pub keyed_all : (p : PolicyView) (count : ℕ) (xs new : List Keyed) → length p.grants ≤ count → AreKeyedBelow p count xs → IsPermutation xs new → IsSorted keyed_cmp new → AreKeyed p new
keyed_all p count xs new all below moved up = record {
  sorted = up;
  exact = λ x. (
    λ c. let w = (below x).0 (Contains-permutation new xs x (IsPermutation-sym xs new moved) c) in ((w.0.0, w.0.2), w.1),
    λ w. Contains-permutation xs new x moved ((below x).1 ((w.0.0, omega (arith, all, slice_get_within p.grants w.0.0 w.0.1.0 w.0.1.1), w.0.1), w.1)),
  );
}
