-- the first of what is seen that are alike are the holders
use Rattle.std.proofs.Common.{◌≡◌, ℕ, ◌+◌, ◌<◌, ◌≤◌, Bool, true, false, List, [], ◌∷◌, ◌++◌, length, get_or, take, ap, ap₂, sym, ◌∙◌, refl, subst, Contains, ◌↔◌, inl, inr, arith, slice_get, slice_index, Option, None}
use Rattle.std.specs.Prelude.{Some, AllPairs, option_map}
use Rattle.std.specs.List.Sorted.{IsStrictlySortedBy}
use Rattle.std.specs.Map.{keys_of, values_of}
use Rattle.std.specs.declared.cmp.Ordering.TheVariants.{Less}
use Rattle.std.proofs.lemmas.Bool.{cases_order, cases_eq, cases_lt}
use Rattle.std.proofs.lemmas.Cmp.{nat_list_cmp_total, tied_itself}
use Rattle.std.proofs.lemmas.List.{length-map, length-take-le, get_or-take, map-append, take_more, take_all}
use Rattle.std.proofs.lemmas.List.Elements.{Contains-append_left, Contains-push, Contains-push_cases}
use Rattle.std.proofs.lemmas.Map.Keys.{Less-from_sorted}
use Rattle.std.proofs.lemmas.Option.{gets, same_Some, slice_get-get_or, slice_get-map, slice_get_within, get_or_from_slice_get}
use Rattle.indexmap.specs.IndexMap.{IndexMap, keys, values}
use Rattle.rbac_terms.specs.Text.{Text, text_cmp}
use Rattle.rbac_index.specs.Requested.{RequestedView}
use Rattle.rbac_model.specs.Policies.{Held}
use Rattle.rbac_model.specs.Holders.{HolderView, IsBefore}
use Rattle.rbac_index.specs.declared.sightings.Sighting.{Sighting}
use Rattle.rbac_index.specs.HolderViews.{holder_of, sighted, label_of, labels_seen, KeepsFirst}
use Rattle.rbac_index.specs.Holding.{HoldsThere, IsAlike, IsEarlier, AreAllSeen, AreFirsts}
use Rattle.rbac_terms.specs.declared.scope.Scope.{Scope}
use Rattle.rbac_index.specs.WhoCan.{HoldsAt, IsHolderBy, AreListedHolders}
use Rattle.rbac_index.specs.Ranks.{AreRanks}
use Rattle.rbac_index.proofs.SeenLemmas.{holder_by, pushed}

lex_asym : (i j k l : ℕ) → IsBefore i j k l → ¬ IsBefore k l i j
lex_asym i j k l (inl a) (inl b) = omega arith
lex_asym i j k l (inl a) (inr b) = omega (arith, b.0)
lex_asym i j k l (inr a) (inl b) = omega (arith, a.0)
lex_asym i j k l (inr a) (inr b) = omega (arith, a.1, b.1)

lex_itself : (i j : ℕ) → ¬ IsBefore i j i j
lex_itself i j a = lex_asym i j i j a a

-- where all that holds was seen
module _ (h : Held) (scope : Scope) (verb : Text) (t : RequestedView) (xs : List HolderView) (seen : AreAllSeen h scope verb t xs) where
  inside : (key : Text) (i j : ℕ) → (a : HoldsAt h scope verb t key i j) → Contains xs (holder_by key a.0 i j)
  inside key i j a = (seen.exact (holder_by key a.0 i j)).1 (a.2, a)

  holds_seen : (x : HolderView) → HoldsThere h scope verb t x → Contains xs x
  holds_seen x there = (seen.exact x).1 there

  -- what was seen with a key holds by it
  holds_with : (x y : HolderView) → Contains xs y → y.key ≡ x.key → HoldsAt h scope verb t x.key y.binding_place y.subject_place
  holds_with x y w same = subst (λ (k : Text). HoldsAt h scope verb t k y.binding_place y.subject_place) same ((seen.exact y).0 w).1

  holder_by_first : (every : Bool) (x : HolderView) → Contains xs x → ((y : HolderView) → Contains xs y → IsAlike every y x → ¬ IsEarlier y x) → IsHolderBy h scope verb t x
  holder_by_first every x w none =
      let there = (seen.exact x).0 w in (
        there.0,
        there.1,
        λ j a. elim (cases_lt j x.subject_place) [
          | inl l ↦ absurd (none (holder_by x.key a.0 x.binding_place j) (inside x.key x.binding_place j a) (refl, refl) (inr (refl, l)))
          | inr l ↦ l
        ],
      )

  none_sooner : (x y : HolderView) → IsHolderBy h scope verb t x → Contains xs y → y.key ≡ x.key → y.binding_place ≡ x.binding_place → y.subject_place < x.subject_place → ⊥
  none_sooner x y holder w same place lt =
      let at = subst (λ (i : ℕ). HoldsAt h scope verb t x.key i y.subject_place) place (holds_with x y w same) in
      let least = holder.2 y.subject_place at in
      omega arith

  pub firsts_hold : (every : Bool) (firsts : List HolderView) → AreFirsts every xs firsts → AreListedHolders h scope every verb t firsts
  firsts_hold true firsts first = record {
    ordered = first.ordered;
    exact = λ x. (
      λ w. let f = (first.exact x).0 w in holder_by_first true x f.0 f.1,
      λ holder. (first.exact x).1 (
        holds_seen x (holder.0, holder.1),
        λ y w alike earlier. elim earlier [
          | inl l ↦ omega (arith, l, alike.1)
          | inr e ↦ none_sooner x y holder w alike.0 alike.1 e.1
        ],
      ),
    );
  }
  firsts_hold false firsts first = record {
    ordered = first.ordered;
    exact = λ x. (
      λ w.
          let f = (first.exact x).0 w in (
            holder_by_first false x f.0 f.1,
            λ i j a. elim (cases_lt i x.binding_place) [
              | inl l ↦ absurd (f.1 (holder_by x.key a.0 i j) (inside x.key i j a) (refl, refl) (inl l))
              | inr l ↦ l
            ],
          ),
      λ holder. (first.exact x).1 (
        holds_seen x (holder.0.0, holder.0.1),
        λ y w alike earlier. elim earlier [
          | inl l ↦ let le = holder.1 y.binding_place y.subject_place (holds_with x y w alike.0) in omega arith
          | inr e ↦ none_sooner x y holder.0 w alike.0 e.0 e.1
        ],
      ),
    );
  }

-- one more is seen, after all others
module _ (every : Bool) (before hs : List HolderView) (y : HolderView) (later : (x : HolderView) → Contains before x → IsEarlier x y) (first : AreFirsts every before hs) where
  not_before : (x : HolderView) → Contains before x → ¬ IsEarlier y x
  not_before x w earlier = lex_asym x.binding_place x.subject_place y.binding_place y.subject_place (later x w) earlier

  still : (x : HolderView) → Contains hs x → Contains (before ++ y ∷ []) x × ((u : HolderView) → Contains (before ++ y ∷ []) u → IsAlike every u x → ¬ IsEarlier u x)
  still x w =
      let f = (first.exact x).0 w in (
        Contains-append_left before (y ∷ []) x f.0,
        λ u v same earlier. elim (Contains-push_cases before y u v) [
          | inl o ↦ f.1 u o same earlier
          | inr e ↦ not_before x f.0 (subst (λ (z : HolderView). IsEarlier z x) (sym e) earlier)
        ],
      )

  was : (x : HolderView) → Contains before x → ((u : HolderView) → Contains (before ++ y ∷ []) u → IsAlike every u x → ¬ IsEarlier u x) → Contains hs x
  was x o none = (first.exact x).1 (o, λ u v. none u (Contains-append_left before (y ∷ []) u v))

  -- its key was seen
  pub firsts_kept : (z : HolderView) → Contains before z → IsAlike every z y → AreFirsts every (before ++ y ∷ []) hs
  firsts_kept z inside same = record {
    ordered = first.ordered;
    exact = λ x. (
      still x,
      λ f. elim (Contains-push_cases before y x f.0) [
        | inl o ↦ was x o f.1
        | inr e ↦ absurd (f.1 z (Contains-append_left before (y ∷ []) z inside) (subst (IsAlike every z) e same) (subst (IsEarlier z) e (later z inside)))
      ],
    );
  }

  -- its key is new
  pub firsts_added : ((z : HolderView) → Contains before z → ¬ IsAlike every z y) → AreFirsts every (before ++ y ∷ []) (hs ++ y ∷ [])
  firsts_added new = record {
    ordered = pushed hs y first.ordered (λ x w. later x ((first.exact x).0 w).0);
    exact = λ x. (
      λ w. elim (Contains-push_cases hs y x w) [
        | inl o ↦ still x o
        | inr e ↦ (
          subst (Contains (before ++ y ∷ [])) e (Contains-push before y),
          λ u v same earlier. elim (Contains-push_cases before y u v) [
            | inl o ↦ new u o (subst (IsAlike every u) (sym e) same)
            | inr f ↦ lex_itself y.binding_place y.subject_place (subst (IsEarlier y) (sym e) (subst (λ (z : HolderView). IsEarlier z x) (sym f) earlier))
          ],
        )
      ],
      λ f. elim (Contains-push_cases before y x f.0) [
        | inl o ↦ Contains-append_left hs (y ∷ []) x (was x o f.1)
        | inr e ↦ subst (Contains (hs ++ y ∷ [])) e (Contains-push hs y)
      ],
    );
  }

-- what the first n sightings leave under their ranks
pub record AreFirstsUpTo {S : Type 0} (every : Bool) (seen : List Sighting) (ranks : List ℕ) (n : ℕ) (m : IndexMap ℕ Sighting S) : Type 0 where
  pub firsts : AreFirsts every (take n (sighted seen)) (sighted (values m))
  pub ranked : (r : ℕ) → Contains (keys m) r ↔ ((k : ℕ) × (k < n) × (slice_index ranks k ≡ r))

first_of : Text → ℕ
first_of [] = 0
first_of (b ∷ bs) = b

behind_first : Text → Text
behind_first [] = []
behind_first (b ∷ bs) = bs

-- what has one label is alike
alike_labels : (every : Bool) (z s : Sighting) → label_of every z ≡ label_of every s → IsAlike every (holder_of z) (holder_of s)
unfolding behind_first first_of
alike_labels every z s e = (ap behind_first e, ap first_of e)

same_labels : (every : Bool) (z s : Sighting) → IsAlike every (holder_of z) (holder_of s) → label_of every z ≡ label_of every s
same_labels every z s alike = ap₂ (λ (i : ℕ) (key : Text). i ∷ key) alike.1 alike.0

-- the same label stands at one place only
once_at : (once : List Text) (key : Text) (i j : ℕ) → IsStrictlySortedBy text_cmp once → slice_get once i ≡ Some key → slice_get once j ≡ Some key → i < j → ⊥
once_at once key i j up at there lt =
    let less = Less-from_sorted text_cmp once i j [] up lt (slice_get_within once j key there) in
    let tie : text_cmp key key ≡ Less = rw (get_or_from_slice_get once i key [] at, get_or_from_slice_get once j key [] there) at less in
    grind (arith, tied_itself nat_list_cmp_total key, tie)

one_at : (once : List Text) (key : Text) (i j : ℕ) → IsStrictlySortedBy text_cmp once → slice_get once i ≡ Some key → slice_get once j ≡ Some key → i ≡ j
one_at once key i j up at there = elim (cases_order i j) [
  | inl e ↦ e
  | inr d ↦ elim d [
    | inl l ↦ absurd (once_at once key i j up at there l)
    | inr l ↦ absurd (once_at once key j i up there at l)
  ]
]

module _ (every : Bool) (seen : List Sighting) (ranks : List ℕ) (up : AllPairs IsEarlier (sighted seen)) (are : AreRanks (labels_seen every seen) ranks) where
  label_there : (k : ℕ) (s : Sighting) → slice_get seen k ≡ Some s → slice_get are.once (slice_index ranks k) ≡ Some (label_of every s)
  label_there k s at = are.places k (label_of every s) (slice_get-map (label_of every) seen k ∙ ap (option_map (label_of every)) at)

  view_there : (k : ℕ) (s : Sighting) → slice_get seen k ≡ Some s → slice_get (sighted seen) k ≡ Some (holder_of s)
  view_there k s at = slice_get-map holder_of seen k ∙ ap (option_map holder_of) at

  -- what is among the first n stands before the n-th
  among_first : (n : ℕ) (x : HolderView) → n < length seen → Contains (take n (sighted seen)) x → (k : ℕ) × (s : Sighting) × (k < n) × (slice_get seen k ≡ Some s) × (holder_of s ≡ x)
  among_first n x lt w =
      let low : w.0 < n = omega (arith, w.1, length-take-le n (sighted seen) (omega (arith, length-map seen holder_of))) in
      let here : w.0 < length seen = omega arith in
      let is : get_or (sighted seen) w.0 x ≡ x = sym (get_or-take n (sighted seen) w.0 x low) ∙ w.2 in
      by (slice_get seen w.0) refl (λ none. absurd (grind (arith, gets, none, here))) (λ s at. (w.0, s, low, at, sym (get_or_from_slice_get (sighted seen) w.0 (holder_of s) x (view_there w.0 s at)) ∙ is))
    where
      by : {P : Type 0} (o : Option Sighting) → slice_get seen w.0 ≡ o → (slice_get seen w.0 ≡ None → P) → ((s : Sighting) → slice_get seen w.0 ≡ Some s → P) → P
      by None e none some = none e
      by (Some s) e none some = some s e

  inside_first : (n k : ℕ) (z : Sighting) → k < n → n < length seen → slice_get seen k ≡ Some z → Contains (take n (sighted seen)) (holder_of z)
  inside_first n k z less lt there = (
    k,
    omega (arith, less, length-take-le n (sighted seen) (omega (arith, lt, length-map seen holder_of))),
    get_or-take n (sighted seen) k (holder_of z) less ∙ get_or_from_slice_get (sighted seen) k (holder_of z) (holder_of z) (view_there k z there),
  )

  pub up_to_more : {S : Type 0} (n rank : ℕ) (s : Sighting) (old new : IndexMap ℕ Sighting S) → slice_get seen n ≡ Some s → slice_index ranks n ≡ rank → KeepsFirst old new rank s → AreFirstsUpTo every seen ranks n old → AreFirstsUpTo every seen ranks (n + 1) new
  up_to_more {S} n rank s old new at is keeps upto =
      let xs = sighted seen in
      let y = holder_of s in
      let lt : n < length seen = slice_get_within seen n s at in
      let low : n < length xs = omega (arith, length-map seen holder_of) in
      let more : take (n + 1) xs ≡ take n xs ++ y ∷ [] = take_more xs n y low ∙ ap (λ (z : HolderView). take n xs ++ z ∷ []) (get_or_from_slice_get xs n y y (view_there n s at)) in
      let later : (x : HolderView) → Contains (take n xs) x → IsEarlier x y = λ x w.
      let a = among_first n x lt w in
      let pair = up a.0 n y a.2 low in
      subst (λ (z : HolderView). IsEarlier z y) (get_or_from_slice_get xs a.0 (holder_of a.1) y (view_there a.0 a.1 a.3) ∙ a.4) (subst (IsEarlier (get_or xs a.0 y)) (get_or_from_slice_get xs n y y (view_there n s at)) pair) in
      elim keeps [
        | inl same ↦
            let (k, less, has) = (upto.ranked rank).0 same.1 in
            let z = get_or seen k s in
            let there : slice_get seen k ≡ Some z = slice_get-get_or seen k s (omega (arith, less, lt)) in
            let one : Some (label_of every z) ≡ Some (label_of every s) = sym (label_there k z there) ∙ ap (slice_get are.once) (has ∙ sym is) ∙ label_there n s at in
            let record_of : AreFirstsUpTo every seen ranks (n + 1) old = record {
              firsts = rw more (firsts_kept every (take n xs) (sighted (values old)) y later upto.firsts (holder_of z) (inside_first n k z less lt there) (alike_labels every z s (same_Some (label_of every z) (label_of every s) one)));
              ranked = λ r. (
                λ w. let j = (upto.ranked r).0 w in (j.0, omega (arith, j.1), j.2),
                λ j. elim (cases_eq j.0 n) [
                  | inl e ↦ subst (Contains (keys old)) (sym is ∙ ap (slice_index ranks) (sym e) ∙ j.2) same.1
                  | inr ne ↦ (upto.ranked r).1 (j.0, omega (arith, j.1), j.2)
                ],
              );
            } in
            subst (AreFirstsUpTo every seen ranks (n + 1)) (sym same.0) record_of
        | inr added ↦
            let shown : sighted (values new) ≡ sighted (values old) ++ y ∷ [] = ap (λ (es : List (ℕ × Sighting)). sighted (values_of es)) added.0 ∙ ap sighted (map-append (λ (e : ℕ × Sighting). e.1) old.entries ((rank, s) ∷ [])) ∙ map-append holder_of (values old) (s ∷ []) in
            let keyed : keys new ≡ keys old ++ rank ∷ [] = ap (λ (es : List (ℕ × Sighting)). keys_of es) added.0 ∙ map-append (λ (e : ℕ × Sighting). e.0) old.entries ((rank, s) ∷ []) in
            record {
              firsts = rw (more, shown) (firsts_added every (take n xs) (sighted (values old)) y later upto.firsts (λ z w same.
                  let (k, u, less, there, view) = among_first n z lt w in
                  let label : label_of every u ≡ label_of every s = same_labels every u s (subst (λ (v : HolderView). IsAlike every v y) (sym view) same) in
                  let place : slice_index ranks k ≡ slice_index ranks n = one_at are.once (label_of every s) (slice_index ranks k) (slice_index ranks n) are.each.ascending (label_there k u there ∙ ap Some label) (label_there n s at) in
                  added.1 ((upto.ranked rank).1 (k, less, place ∙ is))));
              ranked = λ r. (
                λ w. elim (Contains-push_cases (keys old) rank r (subst (λ (l : List ℕ). Contains l r) keyed w)) [
                  | inl o ↦ let j = (upto.ranked r).0 o in (j.0, omega (arith, j.1), j.2)
                  | inr e ↦ (n, omega arith, is ∙ e)
                ],
                λ j. subst (λ (l : List ℕ). Contains l r) (sym keyed) (elim (cases_eq j.0 n) [
                  | inl e ↦ subst (Contains (keys old ++ rank ∷ [])) (sym is ∙ ap (slice_index ranks) (sym e) ∙ j.2) (Contains-push (keys old) rank)
                  | inr ne ↦ Contains-append_left (keys old) (rank ∷ []) r ((upto.ranked r).1 (j.0, omega (arith, j.1), j.2))
                ]),
              );
            }
      ]

  pub up_to_all : {S : Type 0} (n : ℕ) (m : IndexMap ℕ Sighting S) → length seen ≤ n → AreFirstsUpTo every seen ranks n m → AreFirsts every (sighted seen) (sighted (values m))
  up_to_all n m le upto = subst (λ (xs : List HolderView). AreFirsts every xs (sighted (values m))) (take_all n (sighted seen) (omega (arith, le, length-map seen holder_of))) upto.firsts
