-- the words of all nodes, their numbers, and the lists that have these
use Rattle.std.proofs.Common.{◌≡◌, ◌<◌, ◌≤◌, ◌+◌, ◌++◌, ◌∷◌, [], ◌⊎◌, ◌↔◌, ℕ, List, Some, None, Result, Ok, Err, Contains, length, length-append, get_or, slice_get, take, inl, inr, refl, sym, ap, ◌∙◌, subst, arith, false, true}
use Rattle.std.specs.Cmp.Lexicographic.{texts_ties}
use Rattle.std.specs.List.Retain.{IsFiltered, DiffersFromLast}
use Rattle.std.specs.List.Sorted.{IsBinarySearchResult, IsPermutation, IsSearchInRange, IsSorted, IsStrictlySortedBy}
use Rattle.std.specs.Ordering.{is_lt, ordering_reverse}
use Rattle.std.specs.Result.{result_ok}
use Rattle.std.specs.Str.{bytes_eq}
use Rattle.std.specs.declared.cmp.Ordering.TheVariants.{Less}
use Rattle.std.proofs.lemmas.Bool.{cases_eq, cases_lt, cases_order}
use Rattle.std.proofs.lemmas.Cmp.{nat_list_cmp_total, nat_list_eq_equiv, tied_itself}
use Rattle.std.proofs.lemmas.List.{get_or_append_left, get_or_at, take_more}
use Rattle.std.proofs.lemmas.List.Elements.{Contains-append_cases, Contains-append_left, Contains-append_right, Contains-push, Contains-push_cases}
use Rattle.std.proofs.lemmas.List.Filters.{dedup_is}
use Rattle.std.proofs.lemmas.List.Kept.{Contains-dedup, Contains-from_dedup, IsStrictlySortedBy-dedup}
use Rattle.std.proofs.lemmas.List.Sorted.{Contains-permutation, IsPermutation-sym}
use Rattle.std.proofs.lemmas.Map.Keys.{Less-from_sorted}
use Rattle.std.proofs.lemmas.Map.Lookups.{exact_bytes}
use Rattle.std.proofs.lemmas.Option.{get_or_from_slice_get, same_Some, slice_get_read, slice_get_within}
use Rattle.std.proofs.lemmas.Slice.Eq.{bytes_eq-Decides}
use Rattle.rbac_terms.proofs.Halving.{found_iff}
use Rattle.rbac_terms.specs.Text.{Text, text_cmp}
use Rattle.rbac_ways.proofs.Meets.{of_pushed, one, pushed_here}
use Rattle.rbac_ways.proofs.Turning.{listed_within}
use Rattle.rbac_ways.specs.Joining.{AreLists, AreWordsOf, HasNumber, HasSet, IsListedAt, IsNumberOf, TakesList, TakesOwn}

-- the word is in one of the lists
abbrev pub IsInOne : List (List Text) → Text → Type 0
IsInOne lists w = (i : ℕ) × Contains (get_or lists i []) w

pub in_one_more : (lists : List (List Text)) (listed : List Text) (w : Text) → IsInOne (lists ++ listed ∷ []) w ↔ (IsInOne lists w ⊎ Contains listed w)
in_one_more lists listed w = (
  λ h. elim (cases_lt h.0 (length lists)) [
    | inl l ↦ inl (h.0, subst (λ (xs : List Text). Contains xs w) (get_or_append_left lists (listed ∷ []) [] h.0 l) h.1)
    | inr le ↦ inr (subst (λ (xs : List Text). Contains xs w) (get_or_at lists listed [] [] h.0 (at_end h.0 le (listed_within (lists ++ listed ∷ []) h.0 w h.1))) h.1)
  ],
  λ h. elim h [
    | inl x ↦ (x.0, subst (λ (xs : List Text). Contains xs w) (sym (get_or_append_left lists (listed ∷ []) [] x.0 (listed_within lists x.0 w x.1))) x.1)
    | inr x ↦ (length lists, subst (λ (xs : List Text). Contains xs w) (sym (get_or_at lists listed [] [] (length lists) refl)) x)
  ],
)
  where
    at_end : (i : ℕ) → length lists ≤ i → i < length (lists ++ listed ∷ []) → length lists ≡ i
    at_end i le lt = let len = length-append lists (listed ∷ []) in omega (arith, le, lt, len)

pub words_more : (lists : List (List Text)) (i : ℕ) (old new more : List Text) → i < length lists → ((w : Text) → Contains old w ↔ IsInOne (take i lists) w)
    → new ≡ old ++ more → more ≡ get_or lists i [] → (w : Text) → Contains new w ↔ IsInOne (take (i + 1) lists) w
words_more lists i old new more low are is same w =
    let next = get_or lists i [] in
    let one = in_one_more (take i lists) next w in
    subst (λ (xs : List Text). Contains xs w ↔ IsInOne (take (i + 1) lists) w) (sym (is ∙ ap (λ (xs : List Text). old ++ xs) same))
    (subst (λ (all : List (List Text)). Contains (old ++ next) w ↔ IsInOne all w) (sym (take_more lists i [] low)) (
      λ h. one.1 (elim (Contains-append_cases old next w h) [ inl x ↦ inl ((are w).0 x) | inr x ↦ inr x ]),
      λ h. elim (one.0 h) [ inl x ↦ Contains-append_left old next w ((are w).1 x) | inr x ↦ Contains-append_right old next w x ],
    ))

-- what a sort and then a dedup leave of the words of all lists
pub words_are : (lists : List (List Text)) (all sorted once : List Text) → ((w : Text) → Contains all w ↔ IsInOne lists w)
    → IsPermutation all sorted → IsSorted text_cmp sorted → IsFiltered (DiffersFromLast bytes_eq) [] sorted once → AreWordsOf lists once
words_are lists all sorted once are moved up kept =
    let e = dedup_is bytes_eq sorted once kept in
    record {
      ascending = rw e (IsStrictlySortedBy-dedup nat_list_cmp_total texts_ties sorted up);
      same = λ w. (
        λ h. (are w).0 (Contains-permutation sorted all w (IsPermutation-sym all sorted moved) (Contains-from_dedup bytes_eq sorted w (rw e at h))),
        λ h. rw e (Contains-dedup nat_list_eq_equiv (λ x y. (bytes_eq-Decides x y).0) sorted w (Contains-permutation all sorted w moved ((are w).1 h))),
      );
    }

-- a word stands at one place alone
not_before : (words : List Text) (w : Text) (i j : ℕ) → IsStrictlySortedBy text_cmp words → slice_get words i ≡ Some w → slice_get words j ≡ Some w → i < j → ⊥
not_before words w i j up first next less =
    let below : text_cmp w w ≡ Less = rw (get_or_from_slice_get words i w w first, get_or_from_slice_get words j w w next) at (Less-from_sorted text_cmp words i j w up less (slice_get_within words j w next)) in
    let tie = tied_itself nat_list_cmp_total w in
    cc

one_place : (words : List Text) (w : Text) (i j : ℕ) → IsStrictlySortedBy text_cmp words → slice_get words i ≡ Some w → slice_get words j ≡ Some w → i ≡ j
one_place words w i j up first next = elim (cases_order i j) [
  | inl same ↦ same
  | inr other ↦ absurd (elim other [ inl l ↦ not_before words w i j up first next l | inr l ↦ not_before words w j i up next first l ])
]

in_order : (words : List Text) → IsStrictlySortedBy text_cmp words → IsSorted text_cmp words
in_order words up k d low high =
    let less = Less-from_sorted text_cmp words k (k + 1) d up (omega arith) high in
    ap is_lt (nat_list_cmp_total.antisymm (get_or words (k + 1) d) (get_or words k d) ∙ ap ordering_reverse less)

-- the number of a word is where a search finds it
pub number_is : (words : List Text) (w : Text) (r : Result ℕ ℕ) → IsStrictlySortedBy text_cmp words → IsSearchInRange r (length words) → IsBinarySearchResult (λ y. text_cmp y w) words r
    → (number : ℕ) → (result_ok r ≡ Some number) ↔ (slice_get words number ≡ Some w)
number_is words w (Ok i) up within found number =
    let there : get_or words i w ≡ w = exact_bytes (get_or words i w) w (found w) in
    let at_i : slice_get words i ≡ Some w = slice_get_read words (length words) i w refl within (sym there) in (
      λ e. subst (λ (n : ℕ). slice_get words n ≡ Some w) (same_Some i number e) at_i,
      λ e. ap (λ (n : ℕ). Some n) (one_place words w i number up at_i e),
    )
number_is words w (Err i) up within found number = (
  λ e. cc,
  λ e. absurd (let both : false ≡ true = (found_iff words w (Err i) (in_order words up) within found).1 (number, slice_get_within words number w e, get_or_from_slice_get words number w w e) in cc),
)

-- one more word
number_of_more : (words listed : List Text) (w : Text) (number : ℕ) → IsNumberOf words (listed ++ w ∷ []) number ↔ (IsNumberOf words listed number ⊎ (slice_get words number ≡ Some w))
number_of_more words listed w number = (
  λ h. elim (Contains-push_cases listed w h.0 h.1) [ inl x ↦ inl (h.0, x, h.2) | inr same ↦ inr (h.2 ∙ ap (λ (t : Text). Some t) (sym same)) ],
  λ h. elim h [ inl x ↦ (x.0, Contains-append_left listed (w ∷ []) x.0 x.1, x.2) | inr there ↦ (w, Contains-push listed w, there) ],
)

pub more_without : (words listed : List Text) (w : Text) (numbers : List ℕ) → ((number : ℕ) → Contains numbers number ↔ IsNumberOf words listed number)
    → ((number : ℕ) → (None ≡ Some number) ↔ (slice_get words number ≡ Some w)) → (number : ℕ) → Contains numbers number ↔ IsNumberOf words (listed ++ w ∷ []) number
more_without words listed w numbers are is number = (
  λ h. (number_of_more words listed w number).1 (inl ((are number).0 h)),
  λ h. elim ((number_of_more words listed w number).0 h) [ inl x ↦ (are number).1 x | inr there ↦ absurd (let both = (is number).1 there in cc) ],
)

pub more_with : (words listed : List Text) (w : Text) (found : ℕ) (numbers : List ℕ) → ((number : ℕ) → Contains numbers number ↔ IsNumberOf words listed number)
    → ((number : ℕ) → (Some found ≡ Some number) ↔ (slice_get words number ≡ Some w)) → (number : ℕ) → Contains (numbers ++ found ∷ []) number ↔ IsNumberOf words (listed ++ w ∷ []) number
more_with words listed w found numbers are is number = (
  λ h. (number_of_more words listed w number).1 (elim (of_pushed numbers found number h) [
    | inl x ↦ inl ((are number).0 x)
    | inr same ↦ inr ((is number).0 (ap (λ (n : ℕ). Some n) (sym same)))
  ]),
  λ h. elim ((number_of_more words listed w number).0 h) [
    | inl x ↦ Contains-append_left numbers (found ∷ []) number ((are number).1 x)
    | inr there ↦ pushed_here numbers found number (sym (same_Some found number ((is number).1 there)))
  ],
)

-- one list more
pub lists_more : (Has : ℕ → ℕ → Type 0) (count : ℕ) (lists : List (List ℕ)) (own : List ℕ) → ((n : ℕ) → Contains own n ↔ Has count n) → AreLists Has count lists → AreLists Has (count + 1) (lists ++ own ∷ [])
lists_more Has count lists own are below = record {
  len = length-append lists (own ∷ []) ∙ ap (λ (n : ℕ). n + 1) below.len;
  each = λ i n low. elim (cases_eq i count) [
    | inl same ↦ subst (λ (k : ℕ). IsListedAt (lists ++ own ∷ []) k n ↔ Has k n) (sym same)
        (subst (λ (xs : List ℕ). Contains xs n ↔ Has count n) (sym (get_or_at lists own [] [] count below.len)) (are n))
    | inr ne ↦ subst (λ (xs : List ℕ). Contains xs n ↔ Has i n) (sym (get_or_append_left lists (own ∷ []) [] i (let len = below.len in omega (arith, low, ne, len))))
        (below.each i n (omega (arith, low, ne)))
  ];
}

-- the lists of words, and then a list with one set
pub no_single : (words : List Text) (lists : List (List Text)) (numbers : List (List ℕ)) → AreLists (HasNumber words lists) (length lists) numbers → AreLists (HasSet words lists) (length lists + 0) numbers
no_single words lists numbers are = record {
  len = let len = are.len in omega (arith, len);
  each = λ k set low. (let within : k < length lists = omega (arith, low) in
      (λ h. inl ((are.each k set within).0 h), λ h. elim h [ inl x ↦ (are.each k set within).1 x | inr w ↦ absurd (let past = w.1 in omega (arith, past, within)) ]));
}

-- the list that comes so far after those of words has one set
pub is_single : (words : List Text) (lists : List (List Text)) (place set : ℕ) → HasSet words lists (length lists + place) set → set ≡ length words + place
is_single words lists place set has = elim has [
  | inl w ↦ absurd (let low = listed_within lists (length lists + place) w.0 w.1 in omega (arith, low))
  | inr w ↦ (let list = w.1 in let is = w.2 in omega (arith, list, is))
]

pub one_single : (words : List Text) (lists : List (List Text)) (place : ℕ) (all : List (List ℕ)) → AreLists (HasSet words lists) (length lists + place) all
    → AreLists (HasSet words lists) (length lists + (place + 1)) (all ++ ((length words + place) ∷ []) ∷ [])
one_single words lists place all are =
    subst (λ (n : ℕ). AreLists (HasSet words lists) n (all ++ ((length words + place) ∷ []) ∷ [])) (let one_more : length lists + place + 1 ≡ length lists + (place + 1) = omega arith in one_more)
    (lists_more (HasSet words lists) (length lists + place) all ((length words + place) ∷ []) (λ set. (
      λ h. inr (place, refl, one (length words + place) set h),
      λ h. pushed_here [] (length words + place) set (is_single words lists place set h),
    )) are)

-- the lists at a node's places, and one of its own
pub takes_lists : (count more : ℕ) (takes : List (List ℕ)) (own : List ℕ) (node : ℕ) (below taken : List ℕ) → ((n : ℕ) → Contains below n ↔ (IsListedAt takes node n × (n < count)))
    → ((n : ℕ) → Contains taken n ↔ (Contains below n ⊎ TakesOwn count more own node n)) → (n : ℕ) → Contains taken n ↔ TakesList count more takes own node n
takes_lists count more takes own node below taken places all n = (
  λ h. elim ((all n).0 h) [ inl x ↦ inl ((places n).0 x) | inr w ↦ inr w ],
  λ h. (all n).1 (elim h [ inl x ↦ inl ((places n).1 x) | inr w ↦ inr w ]),
)

pub own_past : (count more : ℕ) (own : List ℕ) (node place : ℕ) (taken : List ℕ) → slice_get own node ≡ Some place → more ≤ place → (n : ℕ) → Contains taken n ↔ (Contains taken n ⊎ TakesOwn count more own node n)
own_past count more own node place taken is past n = (
  λ h. inl h,
  λ h. elim h [ inl x ↦ x | inr w ↦ absurd (let same = same_Some w.0 place (sym w.1 ∙ is) in let low = w.2 in omega (arith, same, low, past)) ],
)

pub own_here : (count more : ℕ) (own : List ℕ) (node place : ℕ) (taken : List ℕ) → slice_get own node ≡ Some place → place < more → (n : ℕ) → Contains (taken ++ (count + place) ∷ []) n ↔ (Contains taken n ⊎ TakesOwn count more own node n)
own_here count more own node place taken is low n = (
  λ h. elim (of_pushed taken (count + place) n h) [ inl x ↦ inl x | inr same ↦ inr (place, is, low, same) ],
  λ h. elim h [
    | inl x ↦ Contains-append_left taken ((count + place) ∷ []) n x
    | inr w ↦ pushed_here taken (count + place) n (let same = same_Some w.0 place (sym w.1 ∙ is) in let at = w.3 in omega (arith, same, at))
  ],
)

-- the numbers below a bound, and one more number
pub below_with : (numbers below : List ℕ) (bound number : ℕ) → ((n : ℕ) → Contains below n ↔ (Contains numbers n × (n < bound))) → number < bound → (n : ℕ) → Contains (below ++ number ∷ []) n ↔ (Contains (numbers ++ number ∷ []) n × (n < bound))
below_with numbers below bound number are low n = (
  λ h. elim (of_pushed below number n h) [
    | inl x ↦ (let w = (are n).0 x in (Contains-append_left numbers (number ∷ []) n w.0, w.1))
    | inr same ↦ (pushed_here numbers number n same, omega (arith, same, low))
  ],
  λ w. elim (of_pushed numbers number n w.0) [
    | inl x ↦ Contains-append_left below (number ∷ []) n ((are n).1 (x, w.1))
    | inr same ↦ pushed_here below number n same
  ],
)

pub below_without : (numbers below : List ℕ) (bound number : ℕ) → ((n : ℕ) → Contains below n ↔ (Contains numbers n × (n < bound))) → bound ≤ number → (n : ℕ) → Contains below n ↔ (Contains (numbers ++ number ∷ []) n × (n < bound))
below_without numbers below bound number are past n = (
  λ h. (let w = (are n).0 h in (Contains-append_left numbers (number ∷ []) n w.0, w.1)),
  λ w. elim (of_pushed numbers number n w.0) [ inl x ↦ (are n).1 (x, w.1) | inr same ↦ absurd (let low = w.1 in omega (arith, same, low, past)) ],
)
