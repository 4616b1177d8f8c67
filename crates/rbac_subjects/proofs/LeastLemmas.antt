-- the least of the places that were taken in
use Rattle.std.proofs.Common.{◌≡◌, ℕ, ◌+◌, ◌-◌, ◌<◌, ◌≤◌, List, [], ◌∷◌, ◌++◌, length, get_or, All, AllPairs, Contains, inl, inr, ◌⊎◌, ◌↔◌, ap, sym, ◌∙◌, refl, subst, arith, false}
use Rattle.std.specs.List.{insert}
use Rattle.std.specs.Prelude.{Option, Err, slice_get}
use Rattle.std.specs.Option.{option_to_list}
use Rattle.std.specs.List.Sorted.{IsBinarySearchResult}
use Rattle.std.specs.Ordering.{nat_cmp}
use Rattle.std.proofs.lemmas.Bool.{cases_eq, cases_lt, cases_order}
use Rattle.std.proofs.lemmas.List.{get_or_default, length_push, get_or_append_left, get_or_push}
use Rattle.std.proofs.lemmas.List.Edits.{length-insert, get_or-insert_below, get_or-insert_at, get_or-insert_above}
use Rattle.std.proofs.lemmas.List.Sorted.{searched}
use Rattle.std.proofs.lemmas.List.Elements.{All-weaker, All-contains, All-contains_itself, Contains-append_left, Contains-push, Contains-push_cases}
use Rattle.rbac_terms.proofs.Reading.{read_some}
use Rattle.rbac_subjects.specs.Least.{LeastView, IsPast, IsKeptOr, Takes, no_places}

-- what holds of each that a list contains
all_of : (P : ℕ → Type 0) (xs : List ℕ) → ((n : ℕ) → Contains xs n → P n) → All P xs
all_of P xs each = All-weaker (Contains xs) P each xs (All-contains_itself xs)

-- a list that a number was put into
module _ (xs : List ℕ) (at y : ℕ) (le : at ≤ length xs) where
  longer : length (insert xs at y) ≡ length xs + 1
  longer = length-insert xs at y le

  still_in : (n : ℕ) → Contains xs n → Contains (insert xs at y) n
  still_in n c = elim (cases_lt c.0 at) [
    | inl l ↦ (c.0, omega (arith, c.1, longer), get_or-insert_below xs at y n c.0 l le ∙ c.2)
    | inr l ↦ (c.0 + 1, omega (arith, c.1, longer), get_or-insert_above xs at y n c.0 l le ∙ c.2)
  ]

  put_in : Contains (insert xs at y) y
  put_in = (at, omega (arith, le, longer), get_or-insert_at xs at y y le)

  from_in : (n : ℕ) → Contains (insert xs at y) n → Contains xs n ⊎ (n ≡ y)
  from_in n c = elim (cases_order c.0 at) [
    | inl same ↦ inr (sym c.2 ∙ ap (λ k. get_or (insert xs at y) k n) same ∙ get_or-insert_at xs at y n le)
    | inr less ↦ elim less [
      | inl l ↦ inl (c.0, omega (arith, l, le), sym (get_or-insert_below xs at y n c.0 l le) ∙ c.2)
      | inr l ↦
          let back : (c.0 - 1) + 1 ≡ c.0 = omega (arith, l) in
          inl (c.0 - 1, omega (arith, l, c.1, longer), sym (get_or-insert_above xs at y n (c.0 - 1) (omega (arith, l)) le) ∙ ap (λ k. get_or (insert xs at y) k n) back ∙ c.2)
    ]
  ]

  all_in : (P : ℕ → Type 0) → All P xs → P y → All P (insert xs at y)
  all_in P all one = all_of P (insert xs at y) (λ n c. elim (from_in n c) [ inl old ↦ All-contains P xs n all old | inr e ↦ subst P (sym e) one ])

  ascends : AllPairs (λ a b. a < b) xs → ((k d : ℕ) → k < at → get_or xs k d < y) → ((k d : ℕ) → at ≤ k → k < length xs → y < get_or xs k d) → AllPairs (λ a b. a < b) (insert xs at y)
  ascends up below above i j d lt within = elim (cases_order j at) [
    | inl same ↦
        let there : get_or (insert xs at y) j d ≡ y = ap (λ k. get_or (insert xs at y) k d) same ∙ get_or-insert_at xs at y d le in
        omega (arith, get_or-insert_below xs at y d i (omega (arith, lt, same)) le, there, below i d (omega (arith, lt, same)))
    | inr less ↦ elim less [
      | inl l ↦ omega (arith, get_or-insert_below xs at y d i (omega (arith, lt, l)) le, get_or-insert_below xs at y d j l le, up i j d lt (omega (arith, l, le)))
      | inr l ↦
          let back : (j - 1) + 1 ≡ j = omega (arith, l) in
          let low : j - 1 < length xs = omega (arith, l, within, longer) in
          let there : get_or (insert xs at y) j d ≡ get_or xs (j - 1) d = ap (λ k. get_or (insert xs at y) k d) (sym back) ∙ get_or-insert_above xs at y d (j - 1) (omega (arith, l)) le in
          elim (cases_order i at) [
            | inl same ↦
                let here : get_or (insert xs at y) i d ≡ y = ap (λ k. get_or (insert xs at y) k d) same ∙ get_or-insert_at xs at y d le in
                omega (arith, there, here, above (j - 1) d (omega (arith, l)) low)
            | inr other ↦ elim other [
              | inl before ↦ omega (arith, there, get_or-insert_below xs at y d i before le, up i (j - 1) d (omega (arith, before, l)) low)
              | inr after ↦
                  let first : (i - 1) + 1 ≡ i = omega (arith, after) in
                  let here : get_or (insert xs at y) i d ≡ get_or xs (i - 1) d = ap (λ k. get_or (insert xs at y) k d) (sym first) ∙ get_or-insert_above xs at y d (i - 1) (omega (arith, after)) le in
                  omega (arith, there, here, up (i - 1) (j - 1) d (omega (arith, after, lt)) low)
            ]
          ]
    ]
  ]

-- where a search ended
module _ (xs : List ℕ) (up : AllPairs (λ a b. a < b) xs) (y : ℕ) where
  upwards : (i j : ℕ) → i ≤ j → j < length xs → get_or xs i 0 ≤ get_or xs j 0
  upwards i j le lt = elim (cases_eq i j) [
    | inl same ↦ let e : get_or xs i 0 ≡ get_or xs j 0 = ap (λ k. get_or xs k 0) same in omega (arith, e)
    | inr ne ↦ omega (arith, up i j 0 (omega (arith, ne, le)) lt)
  ]

  module _ (at : ℕ) (is : IsBinarySearchResult (λ x. nat_cmp x y) xs (Err at)) where
    pub at_most : at ≤ length xs
    at_most = (searched xs y (Err at) is upwards).0

    pub below_at : (k d : ℕ) → k < at → get_or xs k d < y
    below_at k d lt = omega (arith, (searched xs y (Err at) is upwards).1 k lt, get_or_default xs k d 0 (omega (arith, lt, at_most)))

    pub above_at : (k d : ℕ) → at ≤ k → k < length xs → y < get_or xs k d
    above_at k d le lt = omega (arith, (searched xs y (Err at) is upwards).2 k le lt, get_or_default xs k d 0 lt)

    pub all_below : length xs ≤ at → All (λ other. other < y) xs
    all_below end = all_of (λ other. other < y) xs (λ n c. subst (λ m. m < y) c.2 (below_at c.0 n (omega (arith, end, c.1))))

    pub found_ascends : AllPairs (λ a b. a < b) (insert xs at y)
    found_ascends = ascends xs at y at_most up below_at above_at

-- a place for which there is room
pub takes_one : (l : LeastView) (at place : ℕ) → at ≤ length l.kept → (l.are_all ≡ false → ⊥) → Takes (λ other. other ≡ place) l (record { kept = insert l.kept at place; are_all = l.are_all })
takes_one l at place le all = record {
  from = λ n k. from_in l.kept at place le n k;
  each = λ n k. elim k [ inl old ↦ inl (still_in l.kept at place le n old) | inr e ↦ inl (subst (Contains (insert l.kept at place)) (sym e) (put_in l.kept at place le)) ];
  still = λ n past. absurd (all past.0);
  others = λ e. inl e;
}

-- a place that comes after all that are kept
pub takes_none : (l : LeastView) (place : ℕ) → All (λ other. other < place) l.kept → Takes (λ other. other ≡ place) l (record { kept = l.kept; are_all = false })
takes_none l place all = record {
  from = λ n k. inl k;
  each = λ n k. elim k [ inl old ↦ inl old | inr e ↦ inr (refl, subst (λ m. All (λ other. other < m) l.kept) (sym e) all) ];
  still = λ n past. (refl, past.1);
  others = λ e. inr (place, inr refl, (refl, all));
}

-- what was taken off the end
pub taken_off : (xs rest : List ℕ) (o : Option ℕ) → 0 < length xs → o ≡ slice_get xs (length xs - 1) → xs ≡ rest ++ option_to_list o → (last : ℕ) × (xs ≡ rest ++ last ∷ [])
taken_off xs rest o some value is =
    let last = read_some xs (length xs - 1) (omega (arith, some)) in
    (last.0, is ∙ ap (λ (r : Option ℕ). rest ++ option_to_list r) (value ∙ last.1))

-- a place that comes in for the greatest
module _ (l : LeastView) (kept : List ℕ) (last : ℕ) (is : l.kept ≡ kept ++ last ∷ []) (up : AllPairs (λ a b. a < b) l.kept) where
  rises : AllPairs (λ a b. a < b) (kept ++ last ∷ [])
  rises = subst (AllPairs (λ a b. a < b)) is up

  rest_ascends : AllPairs (λ a b. a < b) kept
  rest_ascends i j d lt within =
      let r = rises i j d lt (omega (arith, within, length_push kept last)) in
      omega (arith, r, get_or_append_left kept (last ∷ []) d i (omega (arith, lt, within)), get_or_append_left kept (last ∷ []) d j within)

  rest_below : All (λ other. other < last) kept
  rest_below = all_of (λ other. other < last) kept (λ n c.
      let r = rises c.0 (length kept) n c.1 (omega (arith, length_push kept last)) in
      let here : get_or (kept ++ last ∷ []) c.0 n ≡ n = get_or_append_left kept (last ∷ []) n c.0 c.1 ∙ c.2 in
      omega (arith, r, here, get_or_push kept last n (length kept) refl))

  module _ (at place : ℕ) (found : IsBinarySearchResult (λ x. nat_cmp x place) l.kept (Err at)) (low : at < length l.kept) where
    whole : length l.kept ≡ length kept + 1
    whole = ap length is ∙ length_push kept last

    le : at ≤ length kept
    le = omega (arith, low, whole)

    same_at : (k d : ℕ) → k < length kept → get_or l.kept k d ≡ get_or kept k d
    same_at k d lt = ap (λ xs. get_or xs k d) is ∙ get_or_append_left kept (last ∷ []) d k lt

    less : place < last
    less =
        let there : get_or l.kept (length kept) 0 ≡ last = ap (λ xs. get_or xs (length kept) 0) is ∙ get_or_push kept last 0 (length kept) refl in
        omega (arith, there, above_at l.kept up place at found (length kept) 0 le (omega (arith, whole)))

    pub room_made : AllPairs (λ a b. a < b) (insert kept at place)
    room_made = ascends kept at place le rest_ascends
        (λ k d lt. omega (arith, below_at l.kept up place at found k d lt, same_at k d (omega (arith, lt, le))))
        (λ k d from lt. omega (arith, above_at l.kept up place at found k d from (omega (arith, lt, whole)), same_at k d lt))

    abbrev Kept : LeastView
    Kept = record { kept = insert kept at place; are_all = false }

    gone : IsPast Kept last
    gone = (refl, all_in kept at place le (λ other. other < last) rest_below less)

    pub takes_for_last : Takes (λ other. other ≡ place) l Kept
    takes_for_last = record {
      from = λ n k. elim (from_in kept at place le n k) [
        | inl old ↦ inl (subst (λ xs. Contains xs n) (sym is) (Contains-append_left kept (last ∷ []) n old))
        | inr e ↦ inr e
      ];
      each = λ n k. elim k [
        | inl old ↦ elim (Contains-push_cases kept last n (subst (λ xs. Contains xs n) is old)) [
          | inl c ↦ inl (still_in kept at place le n c)
          | inr e ↦ inr (subst (IsPast Kept) e gone)
        ]
        | inr e ↦ inl (subst (Contains (insert kept at place)) (sym e) (put_in kept at place le))
      ];
      still = λ n past.
          let far : last < n = All-contains (λ other. other < n) (kept ++ last ∷ []) last (subst (All (λ other. other < n)) is past.1) (Contains-push kept last) in
          (refl, All-weaker (λ other. other < last) (λ other. other < n) (λ other low. omega (arith, low, far)) (insert kept at place) gone.1);
      others = λ e. inr (last, inl (subst (λ xs. Contains xs last) (sym is) (Contains-push kept last)), gone);
    }

-- places taken in, one property after the other
pub takes_nothing : (P : ℕ → Type 0) (l : LeastView) → ((n : ℕ) → P n → ⊥) → Takes P l l
takes_nothing P l none = record {
  from = λ n k. inl k;
  each = λ n k. elim k [ inl old ↦ inl old | inr p ↦ absurd (none n p) ];
  still = λ n past. past;
  others = λ e. inl e;
}

pub takes_both : (P Q : ℕ → Type 0) (a b c : LeastView) → Takes P a b → Takes Q b c → Takes (λ n. P n ⊎ Q n) a c
takes_both P Q a b c s t = record {
  from = λ n k. elim (t.from n k) [
    | inl mid ↦ elim (s.from n mid) [ inl old ↦ inl old | inr p ↦ inr (inl p) ]
    | inr q ↦ inr (inr q)
  ];
  each = λ n k. elim k [
    | inl old ↦ later n (s.each n (inl old))
    | inr d ↦ elim d [ inl p ↦ later n (s.each n (inr p)) | inr q ↦ t.each n (inr q) ]
  ];
  still = λ n past. t.still n (s.still n past);
  others = λ e. elim (t.others e) [
    | inl f ↦ elim (s.others f) [
      | inl g ↦ inl g
      | inr w ↦ inr (w.0, elim w.1 [ inl old ↦ inl old | inr p ↦ inr (inl p) ], t.still w.0 w.2)
    ]
    | inr w ↦ inr (
      w.0,
      elim w.1 [
        | inl mid ↦ elim (s.from w.0 mid) [ inl old ↦ inl old | inr p ↦ inr (inl p) ]
        | inr q ↦ inr (inr q)
      ],
      w.2,
    )
  ];
}
  where
    later : (n : ℕ) → IsKeptOr (IsPast b) b n → IsKeptOr (IsPast c) c n
    later n (inl mid) = t.each n (inl mid)
    later n (inr past) = inr (t.still n past)

-- the same places by another property, if those that aren't are past
pub takes_past : (P Q : ℕ → Type 0) (a b : LeastView) → ((n : ℕ) → P n → Q n) → ((n : ℕ) → Q n → P n ⊎ IsPast b n) → Takes P a b → Takes Q a b
takes_past P Q a b more less s = record {
  from = λ n k. elim (s.from n k) [ inl old ↦ inl old | inr p ↦ inr (more n p) ];
  each = λ n k. elim k [
    | inl old ↦ s.each n (inl old)
    | inr q ↦ elim (less n q) [ inl p ↦ s.each n (inr p) | inr past ↦ inr past ]
  ];
  still = s.still;
  others = λ e. elim (s.others e) [
    | inl f ↦ inl f
    | inr w ↦ inr (w.0, elim w.1 [ inl old ↦ inl old | inr p ↦ inr (more w.0 p) ], w.2)
  ];
}

pub takes_same : (P Q : ℕ → Type 0) (a b : LeastView) → ((n : ℕ) → P n ↔ Q n) → Takes P a b → Takes Q a b
takes_same P Q a b same s = takes_past P Q a b (λ n p. (same n).0 p) (λ n q. inl ((same n).1 q)) s

-- what comes after a place that is past is past
pub past_later : (l : LeastView) (m n : ℕ) → m ≤ n → IsPast l m → IsPast l n
past_later l m n le past = (past.0, All-weaker (λ other. other < m) (λ other. other < n) (λ other low. omega (arith, low, le)) l.kept past.1)

none_kept : (n : ℕ) → Contains [] n → ⊥
none_kept n c = omega (arith, c.1)

-- the least places with the property, ascending, as many as there is room for, and whether there are no others
pub record AreLeast (P : ℕ → Type 0) (l : LeastView) : Type 0 where
  pub ascending : AllPairs (λ a b. a < b) l.kept
  pub have : (place : ℕ) → Contains l.kept place → P place
  pub each : (place : ℕ) → P place → IsKeptOr (IsPast l) l place
  pub others : l.are_all ≡ false → (place : ℕ) × P place × IsPast l place

-- what was taken into nothing
pub least : (P : ℕ → Type 0) (l : LeastView) → AllPairs (λ a b. a < b) l.kept → Takes P no_places l → AreLeast P l
least P l up s = record {
  ascending = up;
  have = λ n c. elim (s.from n c) [ inl none ↦ absurd (none_kept n none) | inr p ↦ p ];
  each = λ n p. s.each n (inr p);
  others = λ e. elim (s.others e) [
    | inl none ↦ cc
    | inr w ↦ (w.0, elim w.1 [ inl none ↦ absurd (none_kept w.0 none) | inr p ↦ p ], w.2)
  ];
}
