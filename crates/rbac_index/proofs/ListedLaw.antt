-- a binding grants a request exactly where a holder is listed with it that is the principal, or one of its groups
use Rattle.std.proofs.Common.{◌≡◌, ℕ, ◌+◌, ◌<◌, ◌≤◌, ◌⊎◌, List, [], ◌∷◌, true, ap, sym, ◌∙◌, refl, subst, suc, zero, inl, inr, arith, slice_get}
use Rattle.std.specs.Prelude.{Some, Any}
use Rattle.std.specs.Str.{bytes_eq}
use Rattle.std.proofs.lemmas.Bool.{cases_eq, cases_lt, both_ways}
use Rattle.std.proofs.lemmas.Option.{same_Some, slice_get-get_or, slice_get_within, get_or_from_slice_get}
use Rattle.std.proofs.lemmas.Slice.Eq.{bytes_eq-Decides}
use Rattle.rbac_terms.specs.Text.{Text}
use Rattle.rbac_index.specs.Requested.{RequestedView}
use Rattle.rbac_terms.specs.declared.granting.Binding.{Binding}
use Rattle.rbac_terms.proofs.Cases.{by_bool}
use Rattle.rbac_model.specs.Policies.{Held}
use Rattle.rbac_model.specs.Holders.{HolderView, IsKeyFor}
use Rattle.rbac_index.specs.Holding.{GrantsIn, GrantsByHolders}
use Rattle.rbac_terms.specs.declared.scope.Scope.{Scope}
use Rattle.rbac_index.specs.WhoCan.{HoldsAt, IsHolderBy, AreListedHolders}
use Rattle.rbac_model.proofs.KeyNames.{naming_key, key_names}
use Rattle.rbac_index.proofs.SeenLemmas.{holder_by}

-- ---- whether one of a list has a decided property

module _ (P : HolderView → Type 0) (decide : (x : HolderView) → P x ⊎ (¬ P x)) where
  none_at : (x : HolderView) (xs : List HolderView) → ¬ P x → ¬ Any P xs → ¬ Any P (x ∷ xs)
  none_at x xs off none (zero, y, l, is, p) = off (subst P (sym is) p)
  none_at x xs off none (suc k, y, l, is, p) = none (k, y, omega (arith, l), is, p)

  any_or_none : (xs : List HolderView) → Any P xs ⊎ (¬ Any P xs)
  any_or_none [] = inr (λ a. omega (arith, a.2))
  any_or_none (x ∷ xs) = elim (decide x) [
    | inl p ↦ inl (0, x, omega arith, refl, p)
    | inr off ↦ elim (any_or_none xs) [
      | inl a ↦ inl (suc a.0, a.1, omega (arith, a.2), a.3, a.4)
      | inr none ↦ inr (none_at x xs off none)
    ]
  ]

-- x is listed with that key and that binding
abbrev IsWith : Text → ℕ → HolderView → Type 0
IsWith key i x = (x.binding_place ≡ i) × (x.key ≡ key)

is_with : (key : Text) (i : ℕ) (x : HolderView) → IsWith key i x ⊎ (¬ IsWith key i x)
is_with key i x = elim (cases_eq x.binding_place i) [
  | inl e ↦ by_bool (bytes_eq x.key key)
      (λ t. inl (e, (bytes_eq-Decides x.key key).0 t))
      (λ f. inr (λ p. both_ways (bytes_eq x.key key) f ((bytes_eq-Decides x.key key).1 p.1)))
  | inr ne ↦ inr (λ p. ne p.0)
]

module _ (h : Held) (scope : Scope) (verb : Text) (t : RequestedView) (xs : List HolderView) (are : AreListedHolders h scope true verb t xs) where
  module _ (key : Text) (i : ℕ) (none : ¬ Any (IsWith key i) xs) where
    -- where nothing holds before, nothing holds here
    first_fails : (j : ℕ) → ((l : ℕ) → l < j → ¬ HoldsAt h scope verb t key i l) → ¬ HoldsAt h scope verb t key i j
    first_fails j earlier a =
        let x : HolderView = holder_by key a.0 i j in
        let least : (l : ℕ) → HoldsAt h scope verb t key i l → j ≤ l = λ l b. elim (cases_lt l j) [
          | inl m ↦ absurd (earlier l m b)
          | inr m ↦ m
        ] in
        let holder : IsHolderBy h scope verb t x = (a.2, a, least) in
        let w = (are.exact x).1 holder in
        none (w.0, x, w.1, w.2, (refl, refl))

    none_before : (j l : ℕ) → l < j → ¬ HoldsAt h scope verb t key i l
    none_before zero l m a = omega arith
    none_before (suc j) l m a = elim (cases_eq l j) [
      | inl e ↦ first_fails j (none_before j) (subst (HoldsAt h scope verb t key i) e a)
      | inr ne ↦ none_before j l (omega arith) a
    ]

  -- what holds in a binding is listed with it
  has_holder : (key : Text) (i j : ℕ) → HoldsAt h scope verb t key i j → Any (IsWith key i) xs
  has_holder key i j a = elim (any_or_none (IsWith key i) (is_with key i) xs) [
    | inl any ↦ any
    | inr none ↦ absurd (none_before key i none (j + 1) j (omega arith) a)
  ]

  pub grants_by_holders : GrantsByHolders h scope verb t xs
  grants_by_holders who i b at = (
    λ grants.
        let names = grants.1 in
        let s = names.1 in
        let key = naming_key s b.namespace who names.4 in
        let holds : HoldsAt h scope verb t key.0 i names.0 = (b, s, at, slice_get-get_or b.subjects names.0 s names.2 ∙ ap Some names.3, (grants.0, grants.2, key.1)) in
        let any = has_holder key.0 i names.0 holds in
        (any.0, any.1, any.2, any.3, (any.4.0, subst (IsKeyFor who) (sym any.4.1) key.2)),
    λ any.
        let x = any.1 in
        let holder = (are.exact x).0 (any.0, any.2, any.3) in
        let a = holder.1 in
        let same : a.0 ≡ b = same_Some a.0 b (sym a.2 ∙ ap (slice_get h.bindings) any.4.0 ∙ at) in
        let grants : GrantsIn h scope a.0 who verb t = (
          a.4.0,
          (x.subject_place, a.1, slice_get_within a.0.subjects x.subject_place a.1 a.3, get_or_from_slice_get a.0.subjects x.subject_place a.1 a.1 a.3, key_names a.1 a.0.namespace who x.key a.4.2 any.4.1),
          a.4.1,
        ) in
        subst (λ (v : Binding). GrantsIn h scope v who verb t) same grants,
  )
