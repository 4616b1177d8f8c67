-- the edges of a graph of shared words
use Rattle.std.proofs.Common.{◌≡◌, ◌<◌, ◌≤◌, ◌+◌, ◌++◌, [], ◌⊎◌, ◌↔◌, ℕ, List, Some, Contains, length, get_or, slice_get, inl, inr, refl, sym, ap, ◌∙◌, subst, arith}
use Rattle.std.proofs.lemmas.List.{get_or_append_left, get_or-append-add}
use Rattle.std.proofs.lemmas.Option.{same_Some, slice_get_read, slice_get_within}
use Rattle.rbac_terms.specs.Text.{Text}
use Rattle.rbac_ways.proofs.Numbering.{is_single}
use Rattle.rbac_ways.proofs.Turning.{listed_within}
use Rattle.rbac_ways.specs.Joining.{AreLists, AreWordsOf, HasSet, IsListedAt, IsNumberOf, SharesWord, TakesList, TakesListed}
use Rattle.rbac_ways.specs.Ways.{GraphView, IsEdge}

-- a word that a list has, and by which a node can be had, is among the words of either side
pub shared_there : (lists had_by fewer : List (List Text)) (words : List Text) → (fewer ≡ lists) ⊎ (fewer ≡ had_by) → AreWordsOf fewer words
    → (w : Text) (k j : ℕ) → Contains (get_or lists k []) w → Contains (get_or had_by j []) w → Contains words w
shared_there lists had_by fewer words which are w k j listed had = (are.same w).1 (elim which [
  | inl same ↦ (k, subst (λ (all : List (List Text)). Contains (get_or all k []) w) (sym same) listed)
  | inr same ↦ (j, subst (λ (all : List (List Text)). Contains (get_or all j []) w) (sym same) had)
])

module _ (lists : List (List Text)) (takes : List (List ℕ)) (had_by : List (List Text)) (also : List (List ℕ)) (own : List ℕ) (words : List Text) (taken listed sets : List (List ℕ))
    (there : (w : Text) (k j : ℕ) → Contains (get_or lists k []) w → Contains (get_or had_by j []) w → Contains words w) (few : length own ≤ length takes) (many : length sets ≡ length words)
    (take : AreLists (TakesList (length lists) (length also) takes own) (length takes) taken)
    (of : AreLists (HasSet words lists) (length lists + length also) listed)
    (had : (number j : ℕ) → number < length words → IsListedAt sets number j ↔ IsNumberOf words (get_or had_by j []) number) where
  abbrev pub graph : GraphView
  graph = record { takes = taken; lists = listed; sets = sets ++ also }

  -- the set of a word, and the set of a list of `also`
  word_set : (number : ℕ) → number < length words → get_or (sets ++ also) number [] ≡ get_or sets number []
  word_set number low = get_or_append_left sets also [] number (omega (arith, low, many))

  also_set : (place : ℕ) → get_or (sets ++ also) (length words + place) [] ≡ get_or also place []
  also_set place = ap (λ (n : ℕ). get_or (sets ++ also) (n + place) []) (sym many) ∙ get_or-append-add sets also place []

  by_place : (i j list set : ℕ) → IsListedAt takes i list → list < length lists → HasSet words lists list set → IsListedAt (sets ++ also) set j → SharesWord lists takes had_by i j
  by_place i j list set takes_it within has had_it = elim has [
    | inl w ↦
        let low : set < length words = slice_get_within words set w.0 w.2 in
        let other = (had set j low).0 (subst (λ (xs : List ℕ). Contains xs j) (word_set set low) had_it) in
        (w.0, (list, takes_it, w.1), subst (λ (t : Text). Contains (get_or had_by j []) t) (same_Some other.0 w.0 (sym other.2 ∙ w.2)) other.1)
    | inr w ↦ absurd (let past = w.1 in omega (arith, past, within))
  ]

  leads : (i j : ℕ) → IsEdge graph i j → SharesWord lists takes had_by i j ⊎ TakesListed also own i j
  leads i j edge =
      let low : i < length takes = (let there = listed_within taken i edge.list edge.takes in let len = take.len in omega (arith, there, len)) in
      let within : edge.list < length lists + length also = (let there = listed_within listed edge.list edge.set edge.lists in let len = of.len in omega (arith, there, len)) in
      let has = (of.each edge.list edge.set within).0 edge.lists in
      elim ((take.each i edge.list low).0 edge.takes) [
        | inl w ↦ inl (by_place i j edge.list edge.set w.0 w.1 has edge.has)
        | inr w ↦ (let set = is_single words lists w.0 edge.set (subst (λ (k : ℕ). HasSet words lists k edge.set) w.3 has) in
            inr (w.0, w.1, subst (λ (xs : List ℕ). Contains xs j) (also_set w.0) (subst (λ (n : ℕ). IsListedAt (sets ++ also) n j) set edge.has)))
      ]

  by_word : (i j : ℕ) → j < length takes → SharesWord lists takes had_by i j → IsEdge graph i j
  by_word i j node shares =
      let w = shares.0 in
      let k = shares.1.0 in
      let place = there w k j shares.1.2 shares.2 in
      let at_place : slice_get words place.0 ≡ Some w = slice_get_read words (length words) place.0 w refl place.1 (sym place.2) in
      let low : k < length lists = listed_within lists k w shares.1.2 in
      record {
        list = k;
        set = place.0;
        takes = (take.each i k (listed_within takes i k shares.1.1)).1 (inl (shares.1.1, low));
        lists = (of.each k place.0 (omega (arith, low))).1 (inl (w, shares.1.2, at_place));
        has = subst (λ (xs : List ℕ). Contains xs j) (sym (word_set place.0 place.1)) ((had place.0 j place.1).1 (w, shares.2, at_place));
        node = let len = take.len in omega (arith, node, len);
      }

  by_own : (i j : ℕ) → j < length takes → TakesListed also own i j → IsEdge graph i j
  by_own i j node w =
      let low : w.0 < length also = listed_within also w.0 j w.2 in
      record {
        list = length lists + w.0;
        set = length words + w.0;
        takes = (take.each i (length lists + w.0) (let there = slice_get_within own i w.0 w.1 in omega (arith, there, few))).1 (inr (w.0, w.1, low, refl));
        lists = (of.each (length lists + w.0) (length words + w.0) (omega (arith, low))).1 (inr (w.0, refl, refl));
        has = subst (λ (xs : List ℕ). Contains xs j) (sym (also_set w.0)) w.2;
        node = let len = take.len in omega (arith, node, len);
      }

  pub joined_edges : (i j : ℕ) → IsEdge graph i j ↔ ((j < length takes) × (SharesWord lists takes had_by i j ⊎ TakesListed also own i j))
  joined_edges i j = (
    λ edge. (let node = edge.node in let len = take.len in omega (arith, node, len), leads i j edge),
    λ w. elim w.1 [ inl shares ↦ by_word i j w.0 shares | inr own ↦ by_own i j w.0 own ],
  )
