-- Lists that several places share, and one place more.
use Rattle.std.proofs.Common.{◌≡◌, ◌∙◌, ◌+◌, ◌<◌, ◌++◌, ◌∷◌, [], ℕ, List, ap, arith, get_or, inl, inr, length, subst, sym}
use Rattle.std.proofs.lemmas.Bool.{cases_lt}
use Rattle.std.proofs.lemmas.List.{get_or_append_left, get_or_at, length_push}
use Rattle.rbac_paths.specs.SharedLists.{AreShared, list_of}

module _ (X : Type 0) (Has : ℕ → List X → Type 0) where
  pub shared_none : (lists : List (List X)) (places : List ℕ) → lists ≡ [] → places ≡ [] → AreShared X Has 0 lists places
  shared_none lists places no_lists no_places = record {
    lists_len = ap length no_lists;
    places_len = ap length no_places;
    within = λ at low. absurd (omega (arith, low));
    each = λ at low. absurd (omega (arith, low));
  }

  module _ (count : ℕ) (lists : List (List X)) (places : List ℕ) (are : AreShared X Has count lists places) where
    before : (list at : ℕ) → at < count → list_of (places ++ list ∷ []) at ≡ list_of places at
    before list at low = get_or_append_left places (list ∷ []) at at (let len = are.places_len in omega (arith, low, len))

    last : (list : ℕ) → list_of (places ++ list ∷ []) count ≡ list
    last list = get_or_at places list [] count count are.places_len

    more : (list : ℕ) (xs : List X) → list < count + 1 → Has count (get_or (lists ++ xs ∷ []) list []) → AreShared X Has (count + 1) (lists ++ xs ∷ []) (places ++ list ∷ [])
    more list xs low has = record {
      lists_len = length_push lists xs ∙ ap (λ (n : ℕ). n + 1) are.lists_len;
      places_len = length_push places list ∙ ap (λ (n : ℕ). n + 1) are.places_len;
      within = λ at less. elim (cases_lt at count) [
        | inl less ↦ (let w = are.within at less in let e = before list at less in omega (arith, w, e))
        | inr high ↦ (
            let same : at ≡ count = omega (arith, less, high) in
            subst (λ (k : ℕ). list_of (places ++ list ∷ []) k < count + 1) (sym same) (let e = last list in omega (arith, low, e))
            )
      ];
      each = λ at less. elim (cases_lt at count) [
        | inl less ↦ subst (λ (k : ℕ). Has at (get_or (lists ++ xs ∷ []) k [])) (sym (before list at less))
            (subst (Has at) (sym (get_or_append_left lists (xs ∷ []) [] (list_of places at) (let w = are.within at less in let len = are.lists_len in omega (arith, w, len)))) (are.each at less))
        | inr high ↦ (
            let same : at ≡ count = omega (arith, less, high) in
            subst (λ (k : ℕ). Has k (get_or (lists ++ xs ∷ []) (list_of (places ++ list ∷ []) k) [])) (sym same)
            (subst (λ (k : ℕ). Has count (get_or (lists ++ xs ∷ []) k [])) (sym (last list)) has)
            )
      ];
    }

    -- the next place has a list of its own
    pub shared_new : (xs : List X) → Has count xs → AreShared X Has (count + 1) (lists ++ xs ∷ []) (places ++ count ∷ [])
    shared_new xs has = more count xs (omega arith) (subst (Has count) (sym (get_or_at lists xs [] [] count are.lists_len)) has)

    -- the next place has the list of a place before
    pub shared_old : (list : ℕ) (xs : List X) → list < count → Has count (get_or lists list []) → AreShared X Has (count + 1) (lists ++ xs ∷ []) (places ++ list ∷ [])
    shared_old list xs low has = more list xs (omega (arith, low))
        (subst (Has count) (sym (get_or_append_left lists (xs ∷ []) [] list (let len = are.lists_len in omega (arith, low, len)))) has)
