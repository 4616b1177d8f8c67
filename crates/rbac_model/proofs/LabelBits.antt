-- the bits of a label's entries
use Rattle.std.proofs.Common.{◌≡◌, ℕ, ◌+◌, ◌/◌, ◌%◌, ◌<◌, ◌≤◌, ◌⊎◌, ◌↔◌, List, Any, inl, inr, sym, ap, ◌∙◌, arith, subst}
use Rattle.std.specs.Prelude.{Option, Some, slice_get}
use Rattle.std.specs.Int.{bit_at}
use Rattle.std.proofs.lemmas.Bool.{cases_eq}
use Rattle.std.proofs.lemmas.Option.{same_Some, slice_get_within, slice_get-get_or, get_or_from_slice_get}
use Rattle.rbac_terms.specs.Text.{Text}
use Rattle.rbac_terms.specs.declared.granting.ClusterRole.{ClusterRole}
use Rattle.rbac_model.specs.Graphs.{HasPlace}
use Rattle.rbac_model.specs.Labelled.{LabelEntry, Says, IsWithAt, HasSome, AreLabels, label_texts}

-- one of the entries from a place up to another has the bit of k
abbrev pub HasBit : List LabelEntry → ℕ → ℕ → ℕ → Type 0
HasBit xs from at k = (j : ℕ) × (e : LabelEntry) × (from ≤ j) × (j < at) × (slice_get xs j ≡ Some e) × ((k / 64 ≡ e.place / 64) × (bit_at e.bits (k % 64) ≡ 1))

module _ (xs : List LabelEntry) (from : ℕ) (initial : List ℕ) where
  abbrev pub IsPutUpTo : List ℕ → ℕ → Type 0
  IsPutUpTo places at = (k : ℕ) → HasPlace places k ↔ (HasPlace initial k ⊎ HasBit xs from at k)

  pub put_none : IsPutUpTo initial from
  put_none k = (λ m. inl m, λ w. elim w [ inl m ↦ m | inr h ↦ absurd (omega (arith, h.2, h.3)) ])

  pub put_more : (old new : List ℕ) (at : ℕ) (e : LabelEntry) → from ≤ at → slice_get xs at ≡ Some e → ((k : ℕ) → HasPlace new k ↔ (HasPlace old k ⊎ ((k / 64 ≡ e.place / 64) × (bit_at e.bits (k % 64) ≡ 1)))) → IsPutUpTo old at → IsPutUpTo new (at + 1)
  put_more old new at e le there more up k = (
    λ m. elim ((more k).0 m) [
      | inl v ↦ elim ((up k).0 v) [ inl i ↦ inl i | inr h ↦ inr (h.0, h.1, h.2, omega (arith, h.3), h.4, h.5) ]
      | inr b ↦ inr (at, e, le, omega arith, there, b)
    ],
    λ w. (more k).1 (elim w [
      | inl i ↦ inl ((up k).1 (inl i))
      | inr h ↦ elim (cases_eq h.0 at) [
        | inl same ↦
            let one : h.1 ≡ e = same_Some h.1 e (sym h.4 ∙ ap (slice_get xs) same ∙ there) in
            inr (subst (λ (x : LabelEntry). (k / 64 ≡ x.place / 64) × (bit_at x.bits (k % 64) ≡ 1)) one h.5)
        | inr ne ↦ inl ((up k).1 (inr (h.0, h.1, h.2, omega (arith, h.3, ne), h.4, h.5)))
      ]
    ]),
  )

  -- all entries of a label are put
  pub put_all : (roles : List ClusterRole) (key : Text) (value : Option Text) (to at : ℕ) (places : List ℕ) → AreLabels roles xs → ((j : ℕ) (e : LabelEntry) → slice_get xs j ≡ Some e → ((from ≤ j) × (j < to)) ↔ (e.label ≡ label_texts key value)) → ((j : ℕ) → from ≤ j → (j < at) ↔ (j < to)) → IsPutUpTo places at → (k : ℕ) → HasPlace places k ↔ (HasPlace initial k ⊎ IsWithAt (λ own. HasSome own key value) roles k)
  put_all roles key value to at places are between ends up k =
      let label : List Text = label_texts key value in
      let into : HasBit xs from at k → Any (λ e. Says e label k) xs = λ h.
      let same = (between h.0 h.1 h.4).0 (h.2, (ends h.0 h.2).0 h.3) in
      (h.0, h.1, slice_get_within xs h.0 h.1 h.4, get_or_from_slice_get xs h.0 h.1 h.1 h.4, (same, h.5.0, h.5.1)) in
      let back : Any (λ e. Says e label k) xs → HasBit xs from at k = λ w.
      let there : slice_get xs w.0 ≡ Some w.1 = slice_get-get_or xs w.0 w.1 w.2 ∙ ap (λ (e : LabelEntry). Some e) w.3 in
      let within = (between w.0 w.1 there).1 w.4.0 in
      (w.0, w.1, within.0, (ends w.0 within.0).1 within.1, there, (w.4.1, w.4.2)) in (
        λ m. elim ((up k).0 m) [ inl i ↦ inl i | inr h ↦ inr ((are.exact key value k).0 (into h)) ],
        λ w. (up k).1 (elim w [ inl i ↦ inl i | inr p ↦ inr (back ((are.exact key value k).1 p)) ]),
      )
