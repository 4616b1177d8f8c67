-- The labels of holders, in a set.
use Rattle.std.proofs.Common.{◌≡◌, ◌∙◌, ℕ, ◌↔◌, ◌⊎◌, Bool, List, [], ◌∷◌, ◌++◌, Contains, ap, ap₂, sym, subst, inl, inr, arith, Equal, Ordering}
use Rattle.std.specs.BTreeSet.{insert_key}
use Rattle.std.specs.Ordering.{match_ordering}
use Rattle.std.proofs.lemmas.List.Quantifiers.{Any-push}
use Rattle.rbac_terms.specs.Text.{Text}
use Rattle.rbac_terms.proofs.Cases.{by_ordering}
use Rattle.rbac_index.specs.Holding.{IsAlike}
use Rattle.rbac_model.specs.Holders.{HolderView}
use Rattle.rbac_universe.proofs.Flattened.{here, in_cons, there}
use Rattle.rbac_members.specs.Told.{AddsLabel, AreLabels, label_of}
use Rattle.rbac_members.proofs.CandidateLemmas.{any_split, any_still}

-- ---- what a set has once a key is inserted

module _ {K : Type 0} (cmp : K → K → Ordering) (exact : (x y : K) → cmp x y ≡ Equal → x ≡ y) where
  abbrev Has : List K → K → K → K → List K → Type 0
  Has new r q x xs = Contains new q ↔ (Contains (x ∷ xs) q ⊎ (q ≡ r))

  -- what follows from the order of the key and the first one
  abbrev placed : Ordering → K → K → List K → List K
  placed o r x xs = match_ordering o (r ∷ x ∷ xs) (x ∷ xs) (x ∷ insert_key cmp xs r)

  pub inserted : (xs : List K) (r q : K) → Contains (insert_key cmp xs r) q ↔ (Contains xs q ⊎ (q ≡ r))
  inserted [] r q = (
    λ c. elim (in_cons r [] q c) [ inl e ↦ inr (sym e) | inr h ↦ inl h ],
    λ w. elim w [ inl h ↦ absurd (omega (arith, h.1)) | inr e ↦ subst (λ (y : K). Contains (r ∷ []) y) (sym e) (here r []) ],
  )
  inserted (x ∷ xs) r q =
      let later = inserted xs r q in
      by_ordering (cmp r x)
      (λ o. subst (λ (p : Ordering). Has (placed p r x xs) r q x xs) (sym o) (
        λ c. elim (in_cons r (x ∷ xs) q c) [ inl e ↦ inr (sym e) | inr h ↦ inl h ],
        λ w. elim w [ inl h ↦ there r (x ∷ xs) q h | inr e ↦ subst (λ (y : K). Contains (r ∷ x ∷ xs) y) (sym e) (here r (x ∷ xs)) ],
      ))
      (λ o. subst (λ (p : Ordering). Has (placed p r x xs) r q x xs) (sym o) (
        λ c. inl c,
        λ w. elim w [ inl h ↦ h | inr e ↦ subst (λ (y : K). Contains (x ∷ xs) y) (sym (e ∙ exact r x o)) (here x xs) ],
      ))
      (λ o. subst (λ (p : Ordering). Has (placed p r x xs) r q x xs) (sym o) (
        λ c. elim (in_cons x (insert_key cmp xs r) q c) [
          | inl e ↦ inl (subst (λ (y : K). Contains (x ∷ xs) y) e (here x xs))
          | inr h ↦ elim (later.0 h) [ inl a ↦ inl (there x xs q a) | inr e ↦ inr e ]
        ],
        λ w. elim w [
          | inl h ↦ elim (in_cons x xs q h) [
            | inl e ↦ subst (λ (y : K). Contains (x ∷ insert_key cmp xs r) y) e (here x (insert_key cmp xs r))
            | inr a ↦ there x (insert_key cmp xs r) q (later.1 (inl a))
          ]
          | inr e ↦ there x (insert_key cmp xs r) q (later.1 (inr e))
        ],
      ))

-- ---- labels of holders

pub alike_label : (every : Bool) (x y : HolderView) → IsAlike every x y → label_of every x ≡ label_of every y
alike_label every x y (key, place) = ap₂ (λ (n : ℕ) (t : Text). (n, t)) place key

pub label_alike : (every : Bool) (x y : HolderView) → label_of every x ≡ label_of every y → IsAlike every x y
label_alike every x y e = (ap (λ (l : ℕ × Text). l.1) e, ap (λ (l : ℕ × Text). l.0) e)

pub no_labels : (every : Bool) → AreLabels every [] []
no_labels every l = (λ w. absurd (omega (arith, w.1)), λ a. absurd (omega (arith, a.2)))

pub more_labels : (every : Bool) (xs : List HolderView) (x : HolderView) (old new : List (ℕ × Text)) → AddsLabel old new (label_of every x) → AreLabels every xs old → AreLabels every (xs ++ x ∷ []) new
more_labels every xs x old new adds are l = (
  λ w. elim ((adds l).0 w) [
    | inl v ↦ any_still (λ (y : HolderView). label_of every y ≡ l) xs x ((are l).0 v)
    | inr e ↦ Any-push (λ (y : HolderView). label_of every y ≡ l) xs x (sym e)
  ],
  λ a. elim (any_split (λ (y : HolderView). label_of every y ≡ l) xs x a) [
    | inl v ↦ (adds l).1 (inl ((are l).1 v))
    | inr e ↦ (adds l).1 (inr (sym e))
  ],
)
