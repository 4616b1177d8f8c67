-- a request is allowed exactly where some holder is the principal, or one of its groups
use Rattle.std.proofs.Common.{◌≡◌, ℕ, ◌+◌, ◌<◌, List, [], ◌∷◌, length, ap, sym, ◌∙◌, refl, subst, suc, zero, false, ◌⊎◌, inl, inr, arith, get_or}
use Rattle.std.specs.Prelude.{Some, Any}
use Rattle.std.specs.Str.{bytes_eq}
use Rattle.std.proofs.lemmas.Bool.{cases_order, cases_eq, both_ways}
use Rattle.std.proofs.lemmas.Option.{slice_get-get_or, slice_get_within, get_or_from_slice_get}
use Rattle.std.proofs.lemmas.Slice.Eq.{bytes_eq-Decides}
use Rattle.rbac_terms.specs.Text.{Text}
use Rattle.rbac_terms.specs.Targets.{What}
use Rattle.rbac_model.specs.Policies.{Held}
use Rattle.rbac_model.specs.Holders.{HolderView, IsHolderAt, IsHolder, AreHolders, IsKeyFor}
use Rattle.rbac_terms.proofs.Cases.{by_bool}
use Rattle.rbac_model.proofs.KeyNames.{naming_key, key_names}
use Rattle.rbac_index.specs.Holding.{AllowsByHolders}

not_among_at : (x : HolderView) (xs : List HolderView) (key : Text) → bytes_eq x.key key ≡ false → (Any (λ y. y.key ≡ key) xs → ⊥) → (k : ℕ) (y : HolderView) → k < length (x ∷ xs) → get_or (x ∷ xs) k y ≡ y → y.key ≡ key → ⊥
not_among_at x xs key f none zero y l is e = both_ways (bytes_eq x.key key) f ((bytes_eq-Decides x.key key).1 (ap (λ (z : HolderView). z.key) is ∙ e))
not_among_at x xs key f none (suc k) y l is e = none (k, y, omega arith, is, e)

not_among : (x : HolderView) (xs : List HolderView) (key : Text) → bytes_eq x.key key ≡ false → (Any (λ y. y.key ≡ key) xs → ⊥) → Any (λ y. y.key ≡ key) (x ∷ xs) → ⊥
not_among x xs key f none a = not_among_at x xs key f none a.0 a.1 a.2 a.3 a.4

-- a key is among the holders', or not
among : (xs : List HolderView) (key : Text) → Any (λ x. x.key ≡ key) xs ⊎ (Any (λ x. x.key ≡ key) xs → ⊥)
among [] key = inr (λ a. omega (arith, a.2))
among (x ∷ xs) key =
    by_bool (bytes_eq x.key key)
    (λ t. inl (0, x, omega arith, refl, (bytes_eq-Decides x.key key).0 t))
    (λ f. elim (among xs key) [
      | inl a ↦ inl (suc a.0, a.1, omega (arith, a.2), a.3, a.4)
      | inr no_other ↦ inr (λ a. not_among x xs key f no_other a)
    ])

module _ (h : Held) (namespace verb : Text) (t : What) (xs : List HolderView) (are : AreHolders h namespace verb t xs) where
  module _ (key : Text) (none : Any (λ x. x.key ≡ key) xs → ⊥) where
    -- where nothing holds before, nothing holds here
    first_fails : (i j : ℕ) → ((k l : ℕ) → k < i → IsHolderAt h namespace verb t key k l → ⊥) → ((l : ℕ) → l < j → IsHolderAt h namespace verb t key i l → ⊥) → IsHolderAt h namespace verb t key i j → ⊥
    first_fails i j before earlier a =
        let x : HolderView = record { key = key; binding = a.0; binding_place = i; subject_place = j } in
        let least : (k l : ℕ) → IsHolderAt h namespace verb t key k l → (i < k) ⊎ ((i ≡ k) × (j < l + 1)) = λ k l b. elim (cases_order i k) [
          | inl e ↦ elim (cases_order j l) [
            | inl f ↦ inr (e, omega arith)
            | inr d ↦ elim d [
              | inl m ↦ inr (e, omega arith)
              | inr m ↦ absurd (earlier l m (subst (λ (v : ℕ). IsHolderAt h namespace verb t key v l) (sym e) b))
            ]
          ]
          | inr d ↦ elim d [
            | inl m ↦ inl m
            | inr m ↦ absurd (before k l m b)
          ]
        ] in
        let holder : IsHolder h namespace verb t x = (a.2, a, least) in
        let w = (are.exact x).1 holder in
        none (w.0, x, w.1, w.2, refl)

    none_here : (i : ℕ) → ((k l : ℕ) → k < i → IsHolderAt h namespace verb t key k l → ⊥) → (j l : ℕ) → l < j → IsHolderAt h namespace verb t key i l → ⊥
    none_here i before zero l m a = omega arith
    none_here i before (suc j) l m a = elim (cases_eq l j) [
      | inl e ↦ first_fails i j before (λ n o b. none_here i before j n o b) (subst (λ (v : ℕ). IsHolderAt h namespace verb t key i v) e a)
      | inr ne ↦ none_here i before j l (omega arith) a
    ]

    none_before : (i k l : ℕ) → k < i → IsHolderAt h namespace verb t key k l → ⊥
    none_before zero k l m a = omega arith
    none_before (suc i) k l m a = elim (cases_eq k i) [
      | inl e ↦ none_here i (λ n o p b. none_before i n o p b) (l + 1) l (omega arith) (subst (λ (v : ℕ). IsHolderAt h namespace verb t key v l) e a)
      | inr ne ↦ none_before i k l (omega arith) a
    ]

  -- what holds somewhere is a holder's key
  has_holder : (key : Text) (i j : ℕ) → IsHolderAt h namespace verb t key i j → Any (λ x. x.key ≡ key) xs
  has_holder key i j a = elim (among xs key) [
    | inl any ↦ any
    | inr none ↦ absurd (none_before key none (i + 1) i j (omega arith) a)
  ]

  pub allows_by_holders : AllowsByHolders h namespace verb t xs
  allows_by_holders who = (
    λ allows.
        let i = allows.0 in
        let b = allows.1 in
        let grants = allows.4 in
        let names = grants.1 in
        let s = names.1 in
        let key = naming_key s b.namespace who names.4 in
        let holds : IsHolderAt h namespace verb t key.0 i names.0 = (b, s, slice_get-get_or h.bindings i b allows.2 ∙ ap Some allows.3, slice_get-get_or b.subjects names.0 s names.2 ∙ ap Some names.3, (grants.0, grants.2, key.1)) in
        let any = has_holder key.0 i names.0 holds in
        (any.0, any.1, any.2, any.3, subst (IsKeyFor who) (sym any.4) key.2),
    λ any.
        let x = any.1 in
        let holder = (are.exact x).0 (any.0, any.2, any.3) in
        let a = holder.1 in (
          x.binding_place,
          a.0,
          slice_get_within h.bindings x.binding_place a.0 a.2,
          get_or_from_slice_get h.bindings x.binding_place a.0 a.0 a.2,
          (
            a.4.0,
            (x.subject_place, a.1, slice_get_within a.0.subjects x.subject_place a.1 a.3, get_or_from_slice_get a.0.subjects x.subject_place a.1 a.1 a.3, key_names a.1 a.0.namespace who x.key a.4.2 any.4),
            a.4.1,
          ),
        ),
  )
