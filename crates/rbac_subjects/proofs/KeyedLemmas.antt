-- look-ups in the sorted list of keys
use Rattle.std.proofs.Common.{◌≡◌, ℕ, ◌+◌, ◌<◌, ◌≤◌, List, [], ◌∷◌, ◌++◌, length, get_or, Contains, ap, sym, ◌∙◌, refl, subst, arith, inl, inr, ◌⊎◌, ◌↔◌, Bool, true, false, eqb, max, min}
use Rattle.std.specs.Option.{option_eq}
use Rattle.std.specs.Prelude.{Option, Some, None}
use Rattle.std.specs.Ordering.{nat_cmp, ordering_then, is_lt, is_eq, ordering_reverse}
use Rattle.std.specs.Cmp.{IsTotalOrder}
use Rattle.std.specs.List.Sorted.{IsSorted, IsPartitionedBy}
use Rattle.std.specs.declared.cmp.Ordering.{Ordering}
use Rattle.std.specs.declared.cmp.Ordering.TheVariants.{Less, Equal, Greater}
use Rattle.std.proofs.lemmas.Bool.{cases_lt}
use Rattle.std.proofs.lemmas.Bool.Decides.{Decides-eqb}
use Rattle.std.proofs.lemmas.Cmp.{nat_cmp_total, nat_list_cmp_total, on_total, then_total, tied_itself}
use Rattle.std.proofs.lemmas.List.{get_or_default}
use Rattle.std.proofs.lemmas.List.Elements.{Contains-append_left, Contains-push, Contains-push_cases}
use Rattle.std.proofs.lemmas.List.Sorted.{searchable_from_sorted, sorted_far, ranks_by}
use Rattle.std.proofs.lemmas.Map.Lookups.{exact_bytes}
use Rattle.rbac_terms.specs.Text.{Text, text_cmp}
use Rattle.rbac_subjects.specs.declared.subject_keys.Keyed.{Keyed}
use Rattle.rbac_subjects.specs.declared.live_bindings.Live.{Live}
use Rattle.rbac_subjects.specs.Keyed.{keyed, keyed_cmp, IsFirstEntry, IsLiveAt, IsNextOf, AnswersNext, IsLiveUnder, IsUnderBetween, IsLiveUnderAny, sooner}
use Rattle.rbac_terms.proofs.Orderings.{lt_back}

then_assoc : (a b c : Ordering) → ordering_then (ordering_then a b) c ≡ ordering_then a (ordering_then b c)
then_assoc Less b c = refl
then_assoc Equal b c = refl
then_assoc Greater b c = refl

-- a text stands to one in two parts as its head to the first, and then as its tail to the second
pub joined_cmp : (head tail prefix rest : Text) → (length head ≡ length prefix) ⊎ ((length tail ≡ 0) × (length head < length prefix)) → ordering_then (text_cmp head prefix) (text_cmp tail rest) ≡ text_cmp (head ++ tail) (prefix ++ rest)
joined_cmp [] tail [] rest d = refl
joined_cmp [] tail (f ∷ fs) rest (inl e) = absurd (omega (arith, e))
joined_cmp [] [] (f ∷ fs) rest (inr e) = refl
joined_cmp [] (t ∷ ts) (f ∷ fs) rest (inr e) = absurd (omega (arith, e.0))
joined_cmp (h ∷ hs) tail [] rest (inl e) = absurd (omega (arith, e))
joined_cmp (h ∷ hs) tail [] rest (inr e) = absurd (omega (arith, e.1))
joined_cmp (h ∷ hs) tail (f ∷ fs) rest (inl e) = then_assoc (nat_cmp h f) (text_cmp hs fs) (text_cmp tail rest) ∙ ap (ordering_then (nat_cmp h f)) (joined_cmp hs tail fs rest (inl (omega (arith, e))))
joined_cmp (h ∷ hs) tail (f ∷ fs) rest (inr e) = then_assoc (nat_cmp h f) (text_cmp hs fs) (text_cmp tail rest) ∙ ap (ordering_then (nat_cmp h f)) (joined_cmp hs tail fs rest (inr (e.0, omega (arith, e.1))))

pub keyed_total : IsTotalOrder keyed_cmp
keyed_total = then_total (on_total (λ (x : Keyed). x.key) nat_list_cmp_total) (on_total (λ (x : Keyed). x.place) nat_cmp_total)

less_is : (m n : ℕ) → is_lt (nat_cmp m n) ≡ true → m < n
less_is m n e = grind arith

is_less : (m n : ℕ) → m < n → is_lt (nat_cmp m n) ≡ true
is_less m n lt = grind arith

not_less : (m n : ℕ) → is_lt (nat_cmp m n) ≡ false → n ≤ m
not_less m n e = grind arith

-- the order of entries of one key is that of their places
under_one : (key : Text) (m n : ℕ) → keyed_cmp (keyed key m) (keyed key n) ≡ nat_cmp m n
under_one key m n = ap (λ (o : Ordering). ordering_then o (nat_cmp m n)) (tied_itself nat_list_cmp_total key)

above : (o p q : Ordering) → is_lt (ordering_then o p) ≡ false → is_eq o ≡ false → o ≡ Greater
above Less p q e f = cc
above Equal p q e f = cc
above Greater p q e f = refl

-- an entry between two of one key has that key
between : (o p q : Ordering) → is_lt (ordering_then o p) ≡ false → is_lt (ordering_then o q) ≡ true → o ≡ Equal
between Less p q e f = cc
between Equal p q e f = refl
between Greater p q e f = cc

-- the place is one of from..to, and listed under the key by an entry before that one
abbrev pub IsSeen : List Keyed → Text → ℕ → ℕ → ℕ → ℕ → Type 0
IsSeen xs key from to at n = (c : Contains xs (keyed key n)) × (c.0 < at) × (from ≤ n) × (n < to)

module _ (xs : List Keyed) (up : IsSorted keyed_cmp xs) where
  module _ (at : ℕ) (x : Keyed) (here : x ≡ get_or xs at x) where
    -- what is listed from x on is no earlier than x
    pub no_earlier : (y : Keyed) (c : Contains xs y) → at ≤ c.0 → is_lt (keyed_cmp y x) ≡ false
    no_earlier y c le =
        let far = sorted_far (λ a b. is_lt (keyed_cmp a b)) (ranks_by keyed_total (λ (z : Keyed). z)) xs up at c.0 x le c.1 in
        let read : get_or xs c.0 x ≡ y = get_or_default xs c.0 x y c.1 ∙ c.2 in
        rw (read, ← here) at far

  module _ (key : Text) (from : ℕ) where
    -- the entries before those of the key from that place on
    abbrev pub before : Keyed → Bool
    before x = is_lt (keyed_cmp x (keyed key from))

    pub parted_before_key : IsPartitionedBy before xs
    parted_before_key i j d le lt e = lt_back (keyed_cmp (get_or xs i d) (keyed key from)) (keyed_cmp (get_or xs j d) (keyed key from)) (searchable_from_sorted keyed_total (λ x. x) xs (keyed key from) up i j d le lt) e

    module _ (at : ℕ) (point : IsFirstEntry xs (keyed key from) at) where
      -- the key's places from that one on are listed past the point
      pub past : (n : ℕ) → from ≤ n → (c : Contains xs (keyed key n)) → at ≤ c.0
      past n le c = elim (cases_lt c.0 at) [
        | inl l ↦
            let e = rw c.2 at (point.0 c.0 (keyed key n) (omega arith) l) in
            absurd (omega (arith, le, less_is n from (sym (ap is_lt (under_one key n from)) ∙ e)))
        | inr l ↦ l
      ]

      pub none_at_end : length xs ≤ at → (n : ℕ) → from ≤ n → Contains xs (keyed key n) → ⊥
      none_at_end end n le c = absurd (omega (arith, past n le c, c.1, end))

      module _ (x : Keyed) (within : at < length xs) (here : x ≡ get_or xs at x) where
        unlisted : before x ≡ false
        unlisted = rw (← here) at (point.1 at x (omega arith) within)

        pub next_here : text_cmp x.key key ≡ Equal → IsNextOf (λ n. Contains xs (keyed key n)) from x.place
        next_here tied =
            let same : x.key ≡ key = exact_bytes x.key key tied in
            let is : x ≡ keyed key x.place = ap (λ (t : Text). keyed t x.place) same in
            record {
              after = not_less x.place from (sym (ap is_lt (ap (λ (o : Ordering). ordering_then o (nat_cmp x.place from)) tied)) ∙ unlisted);
              holds = subst (λ (y : Keyed). Contains xs y) is (at, within, sym here);
              none_before = λ n le less c.
                  let e = no_earlier at x here (keyed key n) c (past n le c) in
                  let f : is_lt (keyed_cmp (keyed key n) (keyed key x.place)) ≡ false = subst (λ (y : Keyed). is_lt (keyed_cmp (keyed key n) y) ≡ false) is e in
                  absurd (omega (arith, less, not_less n x.place (sym (ap is_lt (under_one key n x.place)) ∙ f)));
            }

        pub none_here : is_eq (text_cmp x.key key) ≡ false → (n : ℕ) → from ≤ n → Contains xs (keyed key n) → ⊥
        none_here apart n le c =
            let over : text_cmp x.key key ≡ Greater = above (text_cmp x.key key) (nat_cmp x.place from) Equal unlisted apart in
            let under : text_cmp key x.key ≡ Less = nat_list_cmp_total.antisymm key x.key ∙ ap ordering_reverse over in
            let e = no_earlier at x here (keyed key n) c (past n le c) in
            let f : is_lt (ordering_then (text_cmp key x.key) (nat_cmp n x.place)) ≡ true = rw under refl in
            cc

  -- the places `from..to` of a key, of entries that are gone through from the first on
  module _ (key : Text) (from to : ℕ) where
    pub none_seen : (first : ℕ) → IsFirstEntry xs (keyed key from) first → (n : ℕ) → IsSeen xs key from to first n → ⊥
    none_seen first point n s = absurd (omega (arith, s.1, past key from first point n s.2 s.0))

    pub all_seen : (at : ℕ) → ((n : ℕ) → (p : IsUnderBetween xs key from to n) → p.0.0 < at) → (n : ℕ) → IsSeen xs key from to at n ↔ IsUnderBetween xs key from to n
    all_seen at low n = (λ s. (s.0, s.2, s.3), λ p. (p.0, low n p, p.1, p.2))

    -- what is listed below `to` stands before the first entry that isn't
    pub below_end : (past : ℕ) → IsFirstEntry xs (keyed key to) past → (n : ℕ) → (p : IsUnderBetween xs key from to n) → p.0.0 < past
    below_end past point n p = elim (cases_lt p.0.0 past) [
      | inl l ↦ l
      | inr le ↦
          let less : is_lt (keyed_cmp (keyed key n) (keyed key to)) ≡ true = ap is_lt (under_one key n to) ∙ is_less n to p.2 in
          let e : is_lt (keyed_cmp (keyed key n) (keyed key to)) ≡ false = rw p.0.2 at (point.1 p.0.0 (keyed key n) le p.0.1) in
          cc
    ]

    module _ (at : ℕ) (x : Keyed) (within : at < length xs) (here : x ≡ get_or xs at x) where
      -- where an entry isn't before the last, those after it aren't either
      pub none_after : is_lt (keyed_cmp x (keyed key to)) ≡ false → (n : ℕ) → (p : IsUnderBetween xs key from to n) → p.0.0 < at
      none_after past_to n p = elim (cases_lt p.0.0 at) [
        | inl l ↦ l
        | inr le ↦
            let less : is_lt (keyed_cmp (keyed key n) (keyed key to)) ≡ true = ap is_lt (under_one key n to) ∙ is_less n to p.2 in
            let read : get_or xs p.0.0 x ≡ keyed key n = get_or_default xs p.0.0 x (keyed key n) p.0.1 ∙ p.0.2 in
            let there : before key to (get_or xs p.0.0 x) ≡ true = rw read less in
            let e : before key to x ≡ true = rw (← here) at (parted_before_key key to at p.0.0 x le p.0.1 there) in
            cc
      ]

      module _ (low : (first : ℕ) × IsFirstEntry xs (keyed key from) first × (first ≤ at)) (high : is_lt (keyed_cmp x (keyed key to)) ≡ true) where
        from_on : is_lt (keyed_cmp x (keyed key from)) ≡ false
        from_on = rw (← here) at (low.1.1 at x low.2 within)

        tied : text_cmp x.key key ≡ Equal
        tied = between (text_cmp x.key key) (nat_cmp x.place from) (nat_cmp x.place to) from_on high

        is : x ≡ keyed key x.place
        is = ap (λ (t : Text). keyed t x.place) (exact_bytes x.key key tied)

        seen_here : IsSeen xs key from to (at + 1) x.place
        seen_here = (
          (at, within, subst (λ (y : Keyed). get_or xs at y ≡ y) is (sym here)),
          omega arith,
          not_less x.place from (sym (ap is_lt (ap (λ (o : Ordering). ordering_then o (nat_cmp x.place from)) tied)) ∙ from_on),
          less_is x.place to (sym (ap is_lt (ap (λ (o : Ordering). ordering_then o (nat_cmp x.place to)) tied)) ∙ high),
        )

        pub one_more : (n : ℕ) → (IsSeen xs key from to at n ⊎ (n ≡ x.place)) ↔ IsSeen xs key from to (at + 1) n
        one_more n = (
          λ d. elim d [
            | inl s ↦ (s.0, omega (arith, s.1), s.2, s.3)
            | inr e ↦ subst (IsSeen xs key from to (at + 1)) (sym e) seen_here
          ],
          λ s. elim (cases_lt s.0.0 at) [
            | inl l ↦ inl (s.0, l, s.2, s.3)
            | inr le ↦
                let e : s.0.0 ≡ at = omega (arith, le, s.1) in
                let read : get_or xs at x ≡ keyed key n = subst (λ (i : ℕ). get_or xs i x ≡ keyed key n) e (get_or_default xs s.0.0 x (keyed key n) s.0.1 ∙ s.0.2) in
                inr (sym (ap (λ (y : Keyed). y.place) (here ∙ read)))
          ],
        )

        -- the places of later entries are no less
        pub no_less : (n : ℕ) → (p : IsUnderBetween xs key from to n) → (p.0.0 < at + 1) ⊎ (x.place ≤ n)
        no_less n p = elim (cases_lt p.0.0 (at + 1)) [
          | inl l ↦ inl l
          | inr le ↦
              let e = no_earlier at x here (keyed key n) p.0 (omega (arith, le)) in
              let f : is_lt (keyed_cmp (keyed key n) (keyed key x.place)) ≡ false = subst (λ (y : Keyed). is_lt (keyed_cmp (keyed key n) y) ≡ false) is e in
              inr (not_less n x.place (sym (ap is_lt (under_one key n x.place)) ∙ f))
        ]

module _ (xs : List Keyed) (live : Live) (key : Text) (from first : ℕ) (at : IsNextOf (λ n. Contains xs (keyed key n)) from first) where
  pub first_live : IsLiveAt live first → IsNextOf (IsLiveUnder xs live key) from first
  first_live l = record { after = at.after; holds = (at.holds, l); none_before = λ n le less p. at.none_before n le less p.0 }

  module _ (dead : ¬ IsLiveAt live first) (next : ℕ) (is : next ≡ max first live.from) where
    ahead : (n : ℕ) → from ≤ n → IsLiveUnder xs live key n → (next ≤ n) × (n < live.to)
    ahead n le p =
        let far : first ≤ n = elim (cases_lt n first) [ inl l ↦ absurd (at.none_before n le l p.0) | inr l ↦ l ] in
        elim p.1 [
          | inl l ↦ absurd (dead (inl (omega (arith, far, l))))
          | inr w ↦ (omega (arith, is, far, w.0), w.1)
        ]

    pub none_next : ((n : ℕ) → next ≤ n → Contains xs (keyed key n) → ⊥) → (n : ℕ) → from ≤ n → IsLiveUnder xs live key n → ⊥
    none_next none n le p = none n (ahead n le p).0 p.0

    module _ (found : ℕ) (then : IsNextOf (λ n. Contains xs (keyed key n)) next found) where
      pub next_inside : found < live.to → IsNextOf (IsLiveUnder xs live key) from found
      next_inside lt = record {
        after = omega (arith, at.after, then.after, is);
        holds = (then.holds, inr (omega (arith, then.after, is), lt));
        none_before = λ n le less p. then.none_before n (ahead n le p).0 less p.0;
      }

      pub next_outside : live.to ≤ found → (n : ℕ) → from ≤ n → IsLiveUnder xs live key n → ⊥
      next_outside le n low p =
          let a = ahead n low p in
          then.none_before n a.0 (omega (arith, le, a.1)) p.0

-- the sooner of two first numbers is the first of both
pub sooner_next : (P Q : ℕ → Type 0) (from : ℕ) (a b : Option ℕ) → AnswersNext P from a → AnswersNext Q from b → AnswersNext (λ n. P n ⊎ Q n) from (sooner a b)
sooner_next P Q from None None f g = λ n le r. elim r [ inl p ↦ f n le p | inr q ↦ g n le q ]
sooner_next P Q from None (Some b) f g = record { after = g.after; holds = inr g.holds; none_before = λ n le less r. elim r [ inl p ↦ f n le p | inr q ↦ g.none_before n le less q ] }
sooner_next P Q from (Some a) None f g = record { after = f.after; holds = inl f.holds; none_before = λ n le less r. elim r [ inl p ↦ f.none_before n le less p | inr q ↦ g n le q ] }
sooner_next P Q from (Some a) (Some b) f g = elim (cases_lt b a) [
  | inl l ↦
      let least : min a b ≡ b = omega (arith, l) in
      rw least (record {
        after = g.after;
        holds = inr g.holds;
        none_before = λ n le less r. elim r [ inl p ↦ f.none_before n le (omega (arith, l, less)) p | inr q ↦ g.none_before n le less q ];
      })
  | inr l ↦
      let least : min a b ≡ a = omega (arith, l) in
      rw least (record {
        after = f.after;
        holds = inl f.holds;
        none_before = λ n le less r. elim r [ inl p ↦ f.none_before n le less p | inr q ↦ g.none_before n le (omega (arith, l, less)) q ];
      })
]

pub next_same : (P Q : ℕ → Type 0) (from : ℕ) (a : Option ℕ) → ((n : ℕ) → P n ↔ Q n) → AnswersNext P from a → AnswersNext Q from a
next_same P Q from None same f = λ n le q. f n le ((same n).1 q)
next_same P Q from (Some a) same f = record { after = f.after; holds = (same a).0 f.holds; none_before = λ n le less q. f.none_before n le less ((same n).1 q) }

-- the places of keys, one key after the other
module _ (xs : List Keyed) (live : Live) where
  pub no_key : (n : ℕ) → IsLiveUnderAny xs live (Contains []) n → ⊥
  no_key n w = omega (arith, w.1.1)

  pub one_more_key : (keys : List Text) (key : Text) (n : ℕ) → (IsLiveUnderAny xs live (Contains keys) n ⊎ IsLiveUnder xs live key n) ↔ IsLiveUnderAny xs live (Contains (keys ++ key ∷ [])) n
  one_more_key keys key n = (
    λ d. elim d [
      | inl w ↦ (w.0, Contains-append_left keys (key ∷ []) w.0 w.1, w.2)
      | inr u ↦ (key, Contains-push keys key, u)
    ],
    λ w. elim (Contains-push_cases keys key w.0 w.1) [
      | inl old ↦ inl (w.0, old, w.2)
      | inr e ↦ inr (subst (λ (t : Text). IsLiveUnder xs live t n) (sym e) w.2)
    ],
  )

  pub all_keys : (keys : List Text) (Is : Text → Type 0) → ((key : Text) → Contains keys key ↔ Is key) → (n : ℕ) → IsLiveUnderAny xs live (Contains keys) n ↔ IsLiveUnderAny xs live Is n
  all_keys keys Is exact n = (λ w. (w.0, (exact w.0).0 w.1, w.2), λ w. (w.0, (exact w.0).1 w.1, w.2))

  -- no key makes the first place come sooner
  pub first_under : (Is : Text → Type 0) (key : Text) (from : ℕ) (found : Option ℕ) → Is key → option_eq eqb found (Some from) ≡ true → AnswersNext (IsLiveUnder xs live key) from found → AnswersNext (IsLiveUnderAny xs live Is) from found
  first_under Is key from None is e next = cc
  first_under Is key from (Some at) is e next =
      let first : at ≡ from = (Decides-eqb at from).0 e in
      record { after = next.after; holds = (key, is, next.holds); none_before = λ n low high. absurd (omega (arith, first, low, high)) }
