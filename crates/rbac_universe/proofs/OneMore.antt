-- one more element among those of one name each: at the end, or at the last one of its name
use Rattle.std.proofs.Common.{◌≡◌, ◌≢◌, ℕ, ◌-◌, ◌<◌, List, [], ◌∷◌, ◌++◌, length, get_or, set, take, Any, All, Contains, ◌↔◌, ◌⊎◌, inl, inr, sym, ap, ◌∙◌, refl, arith, subst, Bool, true, false, Less, Equal, Greater, Ordering, Result, Ok, Err, OnOk}
use Rattle.std.specs.Bool.{◌==◌}
use Rattle.std.specs.Ordering.{is_lt, ordering_index, ordering_reverse}
use Rattle.std.specs.Cmp.{IsStrictWeakOrder}
use Rattle.std.specs.Cmp.Lexicographic.{slice_cmp}
use Rattle.std.specs.List.Sorted.{IsPermutation, IsSortedBy}
use Rattle.std.proofs.lemmas.Bool.{cases_eq}
use Rattle.std.proofs.lemmas.Cmp.{nat_list_cmp_total, lists_total}
use Rattle.std.proofs.lemmas.List.{get_or-set_same, get_or-set_other, get_or_default, length-set, get_or-take}
use Rattle.std.proofs.lemmas.List.Elements.{Contains-append_left, Contains-push, Contains-push_cases}
use Rattle.std.proofs.lemmas.List.Quantifiers.{all_pairs_push}
use Rattle.std.proofs.lemmas.List.Sorted.{Contains-permutation, IsPermutation-sym, ranks_by, sorted_far}
use Rattle.rbac_terms.specs.Text.{Text, text_cmp}
use Rattle.rbac_terms.proofs.Cases.{by_ordering}
use Rattle.rbac_model.specs.Lists.{by_name, IsAscendingBy}
use Rattle.rbac_model.proofs.NamePlaces.{total}
use Rattle.rbac_universe.specs.Uniting.{AreUnitedBy, IsOneMore}

pub on_ok_both : {T E : Type 0} {P Q R : Type 0} (o : Result T E) → (P → Q → R) → OnOk o P → OnOk o Q → OnOk o R
on_ok_both (Ok x) f p q = f p q
on_ok_both (Err e) f p q = tt

pub as_any : {X : Type 0} (Q : X → Type 0) (xs : List X) (x : X) → Contains xs x → Q x → Any Q xs
as_any Q xs x w q = (w.0, x, w.1, w.2, q)

any_push : {X : Type 0} (Q : X → Type 0) (xs : List X) (x : X) → Any Q (xs ++ x ∷ []) ↔ (Any Q xs ⊎ Q x)
any_push Q xs x = (
  λ w. elim (Contains-push_cases xs x w.1 (w.0, w.2, w.3)) [
    | inl c ↦ inl (as_any Q xs w.1 c w.4)
    | inr e ↦ inr (subst Q (sym e) w.4)
  ],
  λ s. elim s [
    | inl w ↦ as_any Q (xs ++ x ∷ []) w.1 (Contains-append_left xs (x ∷ []) w.1 (w.0, w.2, w.3)) w.4
    | inr q ↦ as_any Q (xs ++ x ∷ []) x (Contains-push xs x) q
  ],
)

any_same : {X : Type 0} (Q : X → Type 0) (xs ys : List X) → ((x : X) → Contains xs x → Contains ys x) → Any Q xs → Any Q ys
any_same Q xs ys same w = as_any Q ys w.1 (same w.1 (w.0, w.2, w.3)) w.4

-- what a test of an order for `Equal` says
pub equal_tested : (o : Ordering) (b : Bool) → b ≡ (ordering_index o == 1) → b ≡ true → o ≡ Equal
equal_tested Less b e t = cc
equal_tested Equal b e t = refl
equal_tested Greater b e t = cc

pub other_tested : (o : Ordering) (b : Bool) → b ≡ (ordering_index o == 1) → b ≡ false → o ≢ Equal
other_tested Less b e t q = cc
other_tested Equal b e t q = cc
other_tested Greater b e t q = cc

-- what is so of some element when the one at place k is another
module _ {X : Type 0} (Q : X → Type 0) (xs : List X) (k : ℕ) (x last : X) (l : k < length xs) (is : last ≡ get_or xs k last) where
  set_from : Any Q (set xs k x) → Q x ⊎ Any Q xs
  set_from w = elim (cases_eq w.0 k) [
    | inl e ↦ let a : get_or (set xs k x) w.0 w.1 ≡ x = rw e (get_or-set_same xs k x w.1 l) in inl (subst Q (sym w.3 ∙ a) w.4)
    | inr ne ↦ inr (w.0, w.1, omega (arith, length-set xs k x, w.2), sym (get_or-set_other xs k w.0 x w.1 ne) ∙ w.3, w.4)
  ]

  set_has : Q x → Any Q (set xs k x)
  set_has q = (k, x, omega (arith, length-set xs k x), get_or-set_same xs k x x l, q)

  set_kept : Any Q xs → Any Q (set xs k x) ⊎ Q last
  set_kept w = elim (cases_eq w.0 k) [
    | inl e ↦ let a : get_or xs w.0 w.1 ≡ last = rw e (get_or_default xs k w.1 last l ∙ sym is) in inr (subst Q (sym w.3 ∙ a) w.4)
    | inr ne ↦ inl (w.0, w.1, omega (arith, length-set xs k x, w.2), get_or-set_other xs k w.0 x w.1 ne ∙ w.3, w.4)
  ]

  set_was : Q last → Any Q xs
  set_was q = (k, last, l, sym is, q)

module _ {X : Type 0} (name : X → List Text) (has : X → Text → Type 0) where
  pub ranks : IsStrictWeakOrder (λ x y. is_lt (by_name name x y))
  ranks = ranks_by (lists_total nat_list_cmp_total) name

  -- an item that is not below what is there, and not of the last one's name, is above all
  pub all_below : (old : List X) (item : X) → IsAscendingBy name old → All (λ y. by_name name item y ≢ Less) old → ((d : X) → 0 < length old → by_name name (get_or old (length old - 1) d) item ≢ Equal) → All (λ y. by_name name y item ≡ Less) old
  all_below old item up not_below apart k d l =
      let last : X = get_or old (length old - 1) d in
      let less : by_name name last item ≡ Less = by_ordering (by_name name last item) (λ e. e)
      (λ e. absurd (apart d (omega arith) e))
      (λ e. absurd (not_below (length old - 1) d (omega arith) ((total name).antisymm item last ∙ ap ordering_reverse e))) in
      elim (cases_eq k (length old - 1)) [
        | inl e ↦ rw e less
        | inr ne ↦ (total name).trans (get_or old k d) last item (up k (length old - 1) d (omega arith) (omega arith)) less
      ]

  pub pushed : (old : List X) (item : X) → IsAscendingBy name old → All (λ y. by_name name y item ≡ Less) old → IsOneMore name has old item (old ++ item ∷ [])
  pushed old item up below = record {
    ordered = all_pairs_push (λ x y. by_name name x y ≡ Less) old item up below;
    names = λ n. any_push (λ x. name x ≡ n) old item;
    texts = λ n t. any_push (λ x. (name x ≡ n) × has x t) old item;
  }

  -- the element at place k takes over the texts of an item of its name
  module _ (old : List X) (item x last : X) (k : ℕ) (up : IsAscendingBy name old) (l : k < length old) (is : last ≡ get_or old k last) (named : name item ≡ name last) (kept : name x ≡ name last) (texts : (t : Text) → has x t ↔ (has last t ⊎ has item t)) where
    same_names : (i : ℕ) (d : X) → name (get_or (set old k x) i d) ≡ name (get_or old i d)
    same_names i d = elim (cases_eq i k) [
      | inl e ↦ rw e (ap name (get_or-set_same old k x d l) ∙ kept ∙ ap name (is ∙ get_or_default old k last d l))
      | inr ne ↦ ap name (get_or-set_other old k i x d ne)
    ]

    pub joined : IsOneMore name has old item (set old k x)
    joined = record {
      ordered = λ i j d lt m.
          let in_range : j < length old = omega (arith, length-set old k x) in
          rw (same_names i d, same_names j d) (up i j d lt in_range);
      names = λ n. (
        λ w. elim (set_from (λ y. name y ≡ n) old k x last l is w) [ inl e ↦ inr (named ∙ sym kept ∙ e) | inr o ↦ inl o ],
        λ s. elim s [
          | inl o ↦ elim (set_kept (λ y. name y ≡ n) old k x last l is o) [ inl w ↦ w | inr e ↦ set_has (λ y. name y ≡ n) old k x last l is (kept ∙ e) ]
          | inr e ↦ set_has (λ y. name y ≡ n) old k x last l is (kept ∙ sym named ∙ e)
        ],
      );
      texts = λ n t. (
        λ w. elim (set_from (λ y. (name y ≡ n) × has y t) old k x last l is w) [
          | inl q ↦ elim ((texts t).0 q.1) [
            | inl h ↦ inl (set_was (λ y. (name y ≡ n) × has y t) old k x last l is (sym kept ∙ q.0, h))
            | inr h ↦ inr (named ∙ sym kept ∙ q.0, h)
          ]
          | inr o ↦ inl o
        ],
        λ s. elim s [
          | inl o ↦ elim (set_kept (λ y. (name y ≡ n) × has y t) old k x last l is o) [
            | inl w ↦ w
            | inr q ↦ set_has (λ y. (name y ≡ n) × has y t) old k x last l is (kept ∙ q.0, (texts t).1 (inl q.1))
          ]
          | inr q ↦ set_has (λ y. (name y ≡ n) × has y t) old k x last l is (kept ∙ sym named ∙ q.0, (texts t).1 (inr q.1))
        ],
      );
    }

  -- the list, element by element
  pub one_united : (listed united new : List X) (item : X) → AreUnitedBy name has listed united → IsOneMore name has united item new → AreUnitedBy name has (listed ++ item ∷ []) new
  one_united listed united new item are one = record {
    ordered = one.ordered;
    names = λ n. let g = any_push (λ x. name x ≡ n) listed item in (
      λ w. g.1 (elim ((one.names n).0 w) [ inl o ↦ inl ((are.names n).0 o) | inr e ↦ inr e ]),
      λ w. (one.names n).1 (elim (g.0 w) [ inl o ↦ inl ((are.names n).1 o) | inr e ↦ inr e ]),
    );
    texts = λ n t. let g = any_push (λ x. (name x ≡ n) × has x t) listed item in (
      λ w. g.1 (elim ((one.texts n t).0 w) [ inl o ↦ inl ((are.texts n t).0 o) | inr e ↦ inr e ]),
      λ w. (one.texts n t).1 (elim (g.0 w) [ inl o ↦ inl ((are.texts n t).1 o) | inr e ↦ inr e ]),
    );
  }

  -- the next of a sorted list is not below those of the names before it
  pub not_below : (sorted yielded united : List X) (item : X) → IsSortedBy (λ x y. is_lt (by_name name x y)) sorted → yielded ≡ take (length yielded) sorted → length yielded < length sorted → item ≡ get_or sorted (length yielded) item → AreUnitedBy name has yielded united → All (λ y. by_name name item y ≢ Less) united
  not_below sorted yielded united item up prefix l is are k d m less =
      let y : X = get_or united k d in
      let z = (are.names (name y)).0 (k, y, m, get_or_default united k y d m, refl) in
      let at : get_or sorted z.0 z.1 ≡ z.1 = sym (get_or-take (length yielded) sorted z.0 z.1 z.2) ∙ ap (λ (s : List X). get_or s z.0 z.1) (sym prefix) ∙ z.3 in
      let at_item : get_or sorted (length yielded) z.1 ≡ item = get_or_default sorted (length yielded) z.1 item l ∙ sym is in
      let far = sorted_far (λ a b. is_lt (by_name name a b)) ranks sorted up z.0 (length yielded) z.1 (omega (arith, z.2)) l in
      let not_less : is_lt (by_name name item z.1) ≡ false = rw (at, at_item) at far in
      let same : by_name name item z.1 ≡ by_name name item y = ap (λ n. slice_cmp text_cmp (name item) n) z.4 in
      let test : is_lt (by_name name item z.1) ≡ true = ap is_lt (same ∙ less) in cc

  -- the order of the list is nothing
  pub united_moved : (listed moved united : List X) → IsPermutation listed moved → AreUnitedBy name has moved united → AreUnitedBy name has listed united
  united_moved listed moved united moves are =
      let there = λ (x : X). Contains-permutation listed moved x moves in
      let back = λ (x : X). Contains-permutation moved listed x (IsPermutation-sym listed moved moves) in
      record {
        ordered = are.ordered;
        names = λ n. (λ w. any_same (λ x. name x ≡ n) moved listed back ((are.names n).0 w), λ w. (are.names n).1 (any_same (λ x. name x ≡ n) listed moved there w));
        texts = λ n t. (λ w. any_same (λ x. (name x ≡ n) × has x t) moved listed back ((are.texts n t).0 w), λ w. (are.texts n t).1 (any_same (λ x. (name x ≡ n) × has x t) listed moved there w));
      }
