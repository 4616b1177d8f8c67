-- the places of the bindings that name the principal, key by key
use Rattle.std.proofs.Common.{◌≡◌, ℕ, ◌+◌, ◌<◌, ◌≤◌, List, [], ◌∷◌, ◌++◌, length, get_or, Contains, sym, ◌∙◌, subst, inl, inr, ◌↔◌, true, arith}
use Rattle.std.specs.Ordering.{is_lt}
use Rattle.std.specs.List.Sorted.{IsSorted}
use Rattle.std.proofs.lemmas.List.Elements.{Contains-append_left, Contains-push, Contains-push_cases}
use Rattle.std.proofs.lemmas.Option.{same_Some, slice_get_within}
use Rattle.rbac_terms.specs.Text.{Text}
use Rattle.rbac_terms.specs.Principals.{Who}
use Rattle.rbac_terms.specs.declared.granting.Binding.{Binding}
use Rattle.rbac_model.specs.Holders.{IsKeyFor}
use Rattle.rbac_model.specs.Policies.{BindingNames, GrantView, IsPolicy, PolicyView}
use Rattle.rbac_subjects.specs.declared.subject_keys.Keyed.{Keyed}
use Rattle.rbac_subjects.specs.Bound.{AreNamedPlaces}
use Rattle.rbac_subjects.specs.Keyed.{AddsPlaces, AreKeyed, IsFirstEntry, IsUnderAny, IsUnderBetween, keyed, keyed_cmp}
use Rattle.rbac_subjects.proofs.KeyedLemmas.{IsSeen, all_seen, none_seen, one_more}
use Rattle.rbac_subjects.proofs.NextRunLemmas.{listed_at, named_at}

-- entries are gone through, and the places below `end` of a key are added
module _ (xs : List Keyed) (up : IsSorted keyed_cmp xs) (key : Text) (end : ℕ) (old : List ℕ) where
  pub adds_none : (first : ℕ) → IsFirstEntry xs (keyed key 0) first → AddsPlaces (IsSeen xs key 0 end first) old old
  adds_none first point n = (λ c. inl c, λ d. elim d [ inl c ↦ c | inr s ↦ absurd (none_seen xs up key 0 end first point n s) ])

  module _ (at : ℕ) (new : List ℕ) (adds : AddsPlaces (IsSeen xs key 0 end at) old new) where
    pub adds_more : (x : Keyed) → at < length xs → x ≡ get_or xs at x → (first : ℕ) × IsFirstEntry xs (keyed key 0) first × (first ≤ at) → is_lt (keyed_cmp x (keyed key end)) ≡ true
        → AddsPlaces (IsSeen xs key 0 end (at + 1)) old (new ++ x.place ∷ [])
    adds_more x within here low high n =
        let more = one_more xs up key 0 end at x within here low high n in (
          λ c. elim (Contains-push_cases new x.place n c) [
            | inl c ↦ elim ((adds n).0 c) [ inl o ↦ inl o | inr s ↦ inr (more.0 (inl s)) ]
            | inr e ↦ inr (more.0 (inr (sym e)))
          ],
          λ d. elim d [
            | inl o ↦ Contains-append_left new (x.place ∷ []) n ((adds n).1 (inl o))
            | inr s ↦ elim (more.1 s) [
              | inl s ↦ Contains-append_left new (x.place ∷ []) n ((adds n).1 (inr s))
              | inr e ↦ subst (λ (k : ℕ). Contains (new ++ x.place ∷ []) k) (sym e) (Contains-push new x.place)
            ]
          ],
        )

    pub adds_all : ((n : ℕ) → (p : IsUnderBetween xs key 0 end n) → p.0.0 < at) → AddsPlaces (IsUnderBetween xs key 0 end) old new
    adds_all low n =
        let same = all_seen xs up key 0 end at low n in (
          λ c. elim ((adds n).0 c) [ inl o ↦ inl o | inr s ↦ inr (same.0 s) ],
          λ d. elim d [ inl o ↦ (adds n).1 (inl o) | inr p ↦ (adds n).1 (inr (same.1 p)) ],
        )

-- exactly the places that are listed under one of these keys
abbrev pub AreUnder : List Keyed → (Text → Type 0) → ℕ → List ℕ → Type 0
AreUnder xs Has end places = (place : ℕ) → Contains places place ↔ IsUnderAny xs Has end place

module _ (xs : List Keyed) (end : ℕ) where
  pub under_none : AreUnder xs (Contains []) end []
  under_none n = (λ c. absurd (let low = c.1 in omega (arith, low)), λ u. absurd (let low = u.1.1 in omega (arith, low)))

  pub under_more : (keys : List Text) (key : Text) (old new : List ℕ) → AreUnder xs (Contains keys) end old → AddsPlaces (IsUnderBetween xs key 0 end) old new → AreUnder xs (Contains (keys ++ key ∷ [])) end new
  under_more keys key old new are adds n = (
    λ c. elim ((adds n).0 c) [
      | inl o ↦ (let u = (are n).0 o in (u.0, Contains-append_left keys (key ∷ []) u.0 u.1, u.2))
      | inr p ↦ (key, Contains-push keys key, p)
    ],
    λ u. elim (Contains-push_cases keys key u.0 u.1) [
      | inl k ↦ (adds n).1 (inl ((are n).1 (u.0, k, u.2)))
      | inr e ↦ (adds n).1 (inr (subst (λ (t : Text). IsUnderBetween xs t 0 end n) (sym e) u.2))
    ],
  )

  pub under_all : (keys : List Text) (Is : Text → Type 0) (places : List ℕ) → ((key : Text) → Contains keys key ↔ Is key) → AreUnder xs (Contains keys) end places → AreUnder xs Is end places
  under_all keys Is places exact are n = (
    λ c. (let u = (are n).0 c in (u.0, (exact u.0).0 u.1, u.2)),
    λ u. (are n).1 (u.0, (exact u.0).1 u.1, u.2),
  )

-- they are those of the bindings that name the principal
module _ (p : PolicyView) (ok : IsPolicy p) (xs : List Keyed) (are : AreKeyed p xs) (who : Who) where
  pub under_named : (places : List ℕ) → AreUnder xs (IsKeyFor who) (length p.held.bindings) places → AreNamedPlaces p who places
  under_named places under n at of = (
    λ c.
        (let u = (under at).0 c in
        let w = named_at p ok xs are who u.0 at u.1 u.2.0 in
        (of.0, of.1, subst (λ (b : Binding). BindingNames b who) (same_Some w.0 of.0.binding (sym w.1 ∙ of.2)) w.2)),
    λ named.
        (let same : named.0 ≡ of.0 = same_Some named.0 of.0 (sym named.1 ∙ of.1) in
        let names = subst (λ (g : GrantView). BindingNames g.binding who) same named.2 in
        let k = listed_at p ok xs are who at of.0.binding of.2 (n, of) names in
        (under at).1 (k.0, k.1, (k.2, omega arith, slice_get_within p.held.bindings at of.0.binding of.2))),
  )
