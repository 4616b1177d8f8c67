-- what a search among ascending names finds, and what a write or an insertion at that place does
use Rattle.std.proofs.Common.{◌≡◌, ◌≢◌, ℕ, ◌+◌, ◌-◌, ◌<◌, ◌≤◌, inl, inr, List, [], ◌∷◌, length, get_or, set, Any, Result, Ok, Err, IfOk, IfErr, sym, ap, ◌∙◌, refl, arith}
use Rattle.std.specs.List.{insert}
use Rattle.std.specs.Cmp.{IsTotalOrder}
use Rattle.std.specs.Cmp.Lexicographic.{slice_cmp}
use Rattle.std.specs.Ordering.{nat_cmp, is_lt, ordering_index, ordering_reverse}
use Rattle.std.specs.List.Sorted.{IsSearchInRange, IsBinarySearchResult, IsNonDecreasingBy}
use Rattle.std.specs.declared.cmp.Ordering.{Ordering}
use Rattle.std.specs.declared.cmp.Ordering.TheVariants.{Less, Equal, Greater}
use Rattle.std.specs.Prelude.{Some, slice_get, IsTrue}
use Rattle.std.proofs.lemmas.Bool.{cases_eq, cases_lt}
use Rattle.std.proofs.lemmas.Cmp.{nat_list_cmp_total, lists_total, on_total, tied_itself, alike_right}
use Rattle.std.proofs.lemmas.List.{get_or-set_same, get_or-set_other, get_or_default, length-set}
use Rattle.std.proofs.lemmas.List.Edits.{length-insert, get_or-insert_below, get_or-insert_at, get_or-insert_above}
use Rattle.std.proofs.lemmas.Map.Lookups.{exact_unsigned}
use Rattle.std.proofs.lemmas.Option.{get_or_from_slice_get}
use Rattle.rbac_terms.specs.Text.{Text, text_cmp}
use Rattle.rbac_terms.proofs.Cases.{by_ordering}
use Rattle.rbac_terms.proofs.Orderings.{both_equal}
use Rattle.rbac_model.specs.Lists.{by_name, IsAscendingBy, IsPut, IsAtName, IsGapForName}

pub is_less : (o : Ordering) → IsTrue (is_lt o) → o ≡ Less
is_less Less t = refl
is_less Equal t = cc
is_less Greater t = cc

index_at_most : (o : Ordering) → ordering_index o ≤ 2
index_at_most Less = omega arith
index_at_most Equal = omega arith
index_at_most Greater = omega arith

-- lists that compare alike are one, where their elements do
exact_lists : {K : Type 0} (R : K → K → Ordering) → ((x y : K) → R x y ≡ Equal → x ≡ y) → (xs ys : List K) → slice_cmp R xs ys ≡ Equal → xs ≡ ys
exact_lists R exact [] [] e = refl
exact_lists R exact [] (y ∷ ys) e = cc
exact_lists R exact (x ∷ xs) [] e = cc
exact_lists R exact (x ∷ xs) (y ∷ ys) e =
    let parts = both_equal (R x y) (slice_cmp R xs ys) e in
    let heads : x ≡ y = exact x y parts.0 in
    let tails : xs ≡ ys = exact_lists R exact xs ys parts.1 in cc

pub exact_names : (a b : List Text) → slice_cmp text_cmp a b ≡ Equal → a ≡ b
exact_names = exact_lists text_cmp (exact_lists nat_cmp exact_unsigned)

module _ {X : Type 0} (name : X → List Text) where
  pub total : IsTotalOrder (by_name name)
  total = on_total name (lists_total nat_list_cmp_total)

  pub same_name : (x y : X) → by_name name x y ≡ Equal → name x ≡ name y
  same_name x y e = exact_names (name x) (name y) e

  pub equal_from_name : (x y : X) → name x ≡ name y → by_name name x y ≡ Equal
  equal_from_name x y e = ap (λ n. slice_cmp text_cmp n (name y)) e ∙ tied_itself total y

  turned : (x y : X) → by_name name x y ≡ Greater → by_name name y x ≡ Less
  turned x y e = total.antisymm y x ∙ ap ordering_reverse e

  turned_back : (x y : X) → by_name name x y ≡ Less → by_name name y x ≡ Greater
  turned_back x y e = total.antisymm y x ∙ ap ordering_reverse e

  index_rises : (a b x : X) → by_name name a b ≡ Less → ordering_index (by_name name a x) ≤ ordering_index (by_name name b x)
  index_rises a b x l =
      by_ordering (by_name name b x)
      (λ e. let p : ordering_index (by_name name a x) ≡ 0 = ap ordering_index (total.trans a b x l e) in omega arith)
      (λ e. let p : ordering_index (by_name name a x) ≡ 0 = ap ordering_index (sym (alike_right total b x a e) ∙ l) in omega arith)
      (λ e. let p : ordering_index (by_name name b x) ≡ 2 = ap ordering_index e in omega (arith, index_at_most (by_name name a x)))

  module _ (xs : List X) (ascending : IsAscendingBy name xs) (x : X) where
    rises : IsNonDecreasingBy (λ y. ordering_index (by_name name y x)) xs
    rises i j d le in_range =
        elim (cases_eq i j) [ inl e ↦ rw e (omega arith) | inr ne ↦ index_rises (get_or xs i d) (get_or xs j d) x (ascending i j d (omega arith) in_range) ]

    pub searched : (r : Result ℕ ℕ) → IsSearchInRange r (length xs) → IsBinarySearchResult (λ y. by_name name y x) xs r → record { found : IfOk r (IsAtName name xs x); absent : IfErr r (IsGapForName name xs x) }
    searched (Ok i) in_range equal = record { found = (in_range, equal); absent = tt }
    searched (Err i) in_range parted = record { found = tt; absent = (in_range, (parted rises).0, (parted rises).1) }

    -- a name greater than the last goes to the end
    pub after_last : (y : X) → slice_get xs (length xs - 1) ≡ Some y → by_name name y x ≡ Less → IsGapForName name xs x (length xs)
    after_last y last less = (
      omega arith,
      λ k d _ in_range.
          let ends : (e : X) → get_or xs (length xs - 1) e ≡ y = λ e. get_or_from_slice_get xs (length xs - 1) y e last in
          elim (cases_eq k (length xs - 1)) [
            | inl e ↦ ap (λ i. by_name name (get_or xs i d) x) e ∙ ap (λ (z : X). by_name name z x) (ends d) ∙ less
            | inr ne ↦ total.trans (get_or xs k d) y x (ap (by_name name (get_or xs k d)) (sym (ends d)) ∙ ascending k (length xs - 1) d (omega arith) (omega arith)) less
          ],
      λ k d past in_range. absurd (omega arith),
    )

    module _ (i : ℕ) (at : IsAtName name xs x i) where
      before_at : (k : ℕ) (d : X) → k < i → by_name name (get_or xs k d) x ≡ Less
      before_at k d lt = sym (alike_right total (get_or xs i d) x (get_or xs k d) (at.1 d)) ∙ ascending k i d lt at.0

      after_at : (k : ℕ) (d : X) → i < k → k < length xs → by_name name x (get_or xs k d) ≡ Less
      after_at k d lt l = sym (total.congr (get_or xs i d) x (get_or xs k d) (at.1 d)) ∙ ascending i k d lt l

      apart : (k : ℕ) (d : X) → k < length xs → k ≢ i → by_name name (get_or xs k d) x ≡ Equal → ⊥
      apart k d l ne e =
          elim (cases_lt k i) [ inl lt ↦ let b = before_at k d lt in cc | inr le ↦ let b = turned_back x (get_or xs k d) (after_at k d (omega arith) l) in cc ]

      pub ascending_set : IsAscendingBy name (set xs i x)
      ascending_set j k d lt l =
          let in_range : k < length xs = omega (arith, length-set xs i x) in
          elim (cases_eq j i) [
            | inl e ↦ let a : get_or (set xs i x) j d ≡ x = rw e (get_or-set_same xs i x d at.0) in
                let ne : k ≢ i = omega arith in
                rw (a, get_or-set_other xs i k x d ne) (after_at k d (omega arith) in_range)
            | inr ne ↦ elim (cases_eq k i) [
              | inl e ↦ let b : get_or (set xs i x) k d ≡ x = rw e (get_or-set_same xs i x d at.0) in
                  rw (b, get_or-set_other xs i j x d ne) (before_at j d (omega arith))
              | inr nk ↦ rw (get_or-set_other xs i j x d ne, get_or-set_other xs i k x d nk) (ascending j k d lt in_range)
            ]
          ]

      pub put_set : IsPut name xs (set xs i x) x
      put_set y = (
        λ w. elim (cases_eq w.0 i) [
          | inl e ↦ let a : get_or (set xs i x) w.0 y ≡ x = rw e (get_or-set_same xs i x y at.0) in inl (sym w.2 ∙ a)
          | inr ne ↦ let in_range : w.0 < length xs = omega (arith, length-set xs i x, w.1) in
              let read : get_or xs w.0 y ≡ y = sym (get_or-set_other xs i w.0 x y ne) ∙ w.2 in
              inr ((w.0, in_range, read), λ n. apart w.0 y in_range ne (equal_from_name (get_or xs w.0 y) x (ap name read ∙ n)))
        ],
        λ s. elim s [
          | inl e ↦ (i, omega (arith, length-set xs i x, at.0), get_or-set_same xs i x y at.0 ∙ sym e)
          | inr b ↦ let ne : b.0.0 ≢ i = λ q. b.1 (sym (ap name b.0.2) ∙ ap (λ k. name (get_or xs k y)) q ∙ same_name (get_or xs i y) x (at.1 y)) in
              (b.0.0, omega (arith, length-set xs i x, b.0.1), get_or-set_other xs i b.0.0 x y ne ∙ b.0.2)
        ],
      )

      pub named_at : Any (λ y. name y ≡ name x) xs
      named_at = (i, get_or xs i x, at.0, get_or_default xs i (get_or xs i x) x at.0, same_name (get_or xs i x) x (at.1 x))

    module _ (i : ℕ) (gap : IsGapForName name xs x i) where
      below : (k : ℕ) (d : X) → k < i → get_or (insert xs i x) k d ≡ get_or xs k d
      below k d lt = get_or-insert_below xs i x d k lt gap.0

      above : (k : ℕ) (d : X) → i < k → get_or (insert xs i x) k d ≡ get_or xs (k - 1) d
      above k d lt = let e : (k - 1) + 1 ≡ k = omega arith in rw e at (get_or-insert_above xs i x d (k - 1) (omega arith) gap.0)

      pub nowhere : (k : ℕ) (d : X) → k < length xs → name (get_or xs k d) ≢ name x
      nowhere k d l n =
          let e = equal_from_name (get_or xs k d) x n in
          elim (cases_lt k i) [ inl lt ↦ let b = gap.1 k d (omega arith) lt in cc | inr le ↦ let b = gap.2 k d le l in cc ]

      pub ascending_insert : IsAscendingBy name (insert xs i x)
      ascending_insert j k d lt l =
          let more : length (insert xs i x) ≡ length xs + 1 = length-insert xs i x gap.0 in
          elim (cases_lt k i) [
            | inl k_below ↦ rw (below j d (omega arith), below k d k_below) (ascending j k d lt (omega (arith, gap.0)))
            | inr k_from ↦ elim (cases_eq k i) [
              | inl e ↦ let a : get_or (insert xs i x) k d ≡ x = rw e (get_or-insert_at xs i x d gap.0) in
                  rw (below j d (omega arith), a) (gap.1 j d (omega arith) (omega arith))
              | inr ne ↦ elim (cases_lt j i) [
                | inl j_below ↦ rw (below j d j_below, above k d (omega arith)) (ascending j (k - 1) d (omega arith) (omega arith))
                | inr j_from ↦ elim (cases_eq j i) [
                  | inl e ↦ let a : get_or (insert xs i x) j d ≡ x = rw e (get_or-insert_at xs i x d gap.0) in
                      rw (a, above k d (omega arith)) (turned (get_or xs (k - 1) d) x (gap.2 (k - 1) d (omega arith) (omega arith)))
                  | inr nj ↦ rw (above j d (omega arith), above k d (omega arith)) (ascending (j - 1) (k - 1) d (omega arith) (omega arith))
                ]
              ]
            ]
          ]

      pub put_insert : IsPut name xs (insert xs i x) x
      put_insert y =
          let more : length (insert xs i x) ≡ length xs + 1 = length-insert xs i x gap.0 in (
            λ w. elim (cases_lt w.0 i) [
              | inl lt ↦ let read : get_or xs w.0 y ≡ y = sym (below w.0 y lt) ∙ w.2 in
                  let in_range : w.0 < length xs = omega (arith, gap.0) in
                  inr ((w.0, in_range, read), λ n. nowhere w.0 y in_range (ap name read ∙ n))
              | inr le ↦ elim (cases_eq w.0 i) [
                | inl e ↦ let a : get_or (insert xs i x) w.0 y ≡ x = rw e (get_or-insert_at xs i x y gap.0) in inl (sym w.2 ∙ a)
                | inr ne ↦ let read : get_or xs (w.0 - 1) y ≡ y = sym (above w.0 y (omega arith)) ∙ w.2 in
                    let in_range : w.0 - 1 < length xs = omega (arith, w.1) in
                    inr ((w.0 - 1, in_range, read), λ n. nowhere (w.0 - 1) y in_range (ap name read ∙ n))
              ]
            ],
            λ s. elim s [
              | inl e ↦ (i, omega (arith, gap.0), get_or-insert_at xs i x y gap.0 ∙ sym e)
              | inr b ↦ elim (cases_lt b.0.0 i) [
                | inl lt ↦ (b.0.0, omega (arith, b.0.1), below b.0.0 y lt ∙ b.0.2)
                | inr le ↦ (b.0.0 + 1, omega (arith, b.0.1), get_or-insert_above xs i x y b.0.0 le gap.0 ∙ b.0.2)
              ]
            ],
          )

      pub none_named : Any (λ y. name y ≡ name x) xs → ⊥
      none_named w = nowhere w.0 w.1 w.2 (ap name w.3 ∙ w.4)
