-- where the rows of every granting binding after a mark begin
use Rattle.std.proofs.Common.{◌≡◌, ℕ, ◌+◌, ◌<◌, ◌≤◌, ◌⊎◌, List, [], ◌∷◌, ◌++◌, length, map, take, drop, Contains, true, Less, Equal, Greater, refl, ap, ◌∙◌, sym, arith, subst, inl, inr, append_assoc}
use Rattle.std.specs.Prelude.{Option, Some, None, slice_get}
use Rattle.std.specs.Cmp.Lexicographic.{slice_cmp}
use Rattle.std.proofs.lemmas.Bool.{cases_lt}
use Rattle.std.proofs.lemmas.Cmp.{lists_total, nat_list_cmp_total, tied_itself}
use Rattle.std.proofs.lemmas.List.{append_cancel_right, length-map, map-append, take-append-drop}
use Rattle.std.proofs.lemmas.List.Elements.{Contains-append_cases, Contains-append_left, Contains-append_right, filter-append}
use Rattle.std.proofs.lemmas.Option.{same_Some, slice_get_within}
use Rattle.rbac_terms.specs.Text.{Text, text_cmp}
use Rattle.rbac_terms.specs.Principals.{who_key}
use Rattle.rbac_terms.specs.Keys.{KeyTexts, key_cmp, texts}
use Rattle.rbac_terms.specs.declared.granting.Binding.{Binding}
use Rattle.rbac_model.specs.Lists.{by_name, IsAscendingBy}
use Rattle.rbac_model.specs.Policies.{Held, PolicyView, IsPolicy, binding_name}
use Rattle.rbac_model.specs.Universes.{UniverseView, IsUniverse, Cell, RowView, Listed, cell_key, most_targets, target_texts}
use Rattle.rbac_model.proofs.NamePlaces.{exact_names, total}
use Rattle.rbac_terms.specs.Targets.{What}
use Rattle.rbac_terms.proofs.Reading.{read_some}
use Rattle.rbac_token.specs.Marks.{name_texts}
use Rattle.rbac_token.specs.declared.mark.BindingName.{BindingName}
use Rattle.rbac_token.specs.declared.mark.Mark.{Mark}
use Rattle.rbac_universe.proofs.Flattened.{contains_map, here, in_cons, map_contains, there}
use Rattle.rbac_matrix.specs.Cells.{cells_of}
use Rattle.rbac_matrix.specs.Every.{IsEvery, comes_after, every_after}
use Rattle.rbac_matrix.specs.EveryLeft.{AreBelow, pairs_from}
use Rattle.rbac_matrix.specs.EveryStart.{ArePastName, ComesAfter, HasNoRequest, IsEveryStart, IsKeyStart, IsOwnRequest, key_of_mark}
use Rattle.rbac_matrix.specs.Lines.{IsSettled}
use Rattle.rbac_matrix.specs.Pairs.{AreThose, IsGranted, pair_of, pairs_of}
use Rattle.rbac_matrix.specs.Passing.{cell_of, cells_left}
use Rattle.rbac_reaches.specs.Matched.{what_texts}
use Rattle.rbac_matrix.specs.Starting.{BeginsOnLine, HasNoLine, IsAfter, IsFoundAt, IsGapAt, IsOwnLine, IsStart, cell_name, target_part, whats}
use Rattle.rbac_matrix.specs.declared.line.Place.{Place}
use Rattle.rbac_matrix.proofs.JoinLemmas.{same_key, stands_past}
use Rattle.rbac_matrix.proofs.OneEvery.{in_pairs, is_every, one_every, some_pairs}
use Rattle.rbac_matrix.proofs.Orders.{greater, is_greater, not_greater, not_less, not_tied}
use Rattle.rbac_matrix.proofs.PairLemmas.{first_in, pairs_append, pairs_zero}
use Rattle.rbac_matrix.proofs.Product.{cells_ascend, in_cells, key_texts}
use Rattle.rbac_matrix.proofs.StartLemmas.{after_row, filter_all, filter_none, own_line, own_settled, own_suffix, row_after, start_found}
use Rattle.rbac_matrix.proofs.EveryLemmas.{cells_head}
use Rattle.rbac_matrix.proofs.LineLemmas.{mapped_at}
use Rattle.rbac_matrix.proofs.RowLemmas.{head_below, tail_ascends}
use Rattle.rbac_matrix.proofs.SearchLemmas.{drop_in, gap_absent, whats_up, in_take, take_in, target_found}
use Rattle.rbac_matrix.proofs.ThoseLemmas.{those_sound, those_split}

-- ---- the rows after a mark

-- if the rows of rs don't come after the mark, and those of ss do, the rows after the mark are ss
after_split : (m : Option Mark) (rs ss : List RowView) → ((r : RowView) → Contains rs r → ComesAfter m r → ⊥) → ((r : RowView) → Contains ss r → ComesAfter m r) → every_after m (rs ++ ss) ≡ ss
after_split None [] ss early late = refl
after_split None (r ∷ rs) ss early late = absurd (early r (here r rs) tt)
after_split (Some m) rs ss early late =
    filter-append (comes_after m.key m.binding) rs ss ∙ rw (filter_none (comes_after m.key m.binding) rs early, filter_all (comes_after m.key m.binding) ss late) refl

-- in an ascending list, each element before x is less than x
before_less : {X : Type 0} (name : X → List Text) (xs ys : List X) (x y : X) → IsAscendingBy name (xs ++ x ∷ ys) → Contains xs y → by_name name y x ≡ Less
before_less name [] ys x y up w = absurd (omega (arith, w.1))
before_less name (z ∷ xs) ys x y up w = elim (in_cons z xs y w) [
  | inl e ↦ subst (λ a. by_name name a x ≡ Less) e (head_below name z (xs ++ x ∷ ys) x up (Contains-append_right xs (x ∷ ys) x (here x ys)))
  | inr v ↦ before_less name xs ys x y (tail_ascends name z (xs ++ x ∷ ys) up) v
]

module _ (p : PolicyView) (policy : IsPolicy p) (u : UniverseView) (is : IsUniverse u) where
  abbrev bs : List Binding
  bs = p.held.bindings

  abbrev G : RowView → Type 0
  G = IsGranted p.held

  -- the rows of every granting binding are the granted pairs
  every_those : (rows : List RowView) → IsEvery p.held u rows → AreThose G (pairs_of bs (cells_of u)) rows
  every_those rows every =
      let some = some_pairs p policy u is in
      subst (λ (rs : List RowView). AreThose G (pairs_of bs (cells_of u)) rs) (one_every p.held u some.0 rows (is_every p.held u policy.0 is some.0 some.1) every) some.1

  pub start_every : (m : Option Mark) (at : Place) (from b : ℕ) (rows : List RowView) → IsEveryStart p.held u m at from b → IsEvery p.held u rows → AreThose G (pairs_from bs b (cells_left u at from)) (every_after m rows)
  start_every m at from b rows s every =
      let left = pairs_from bs b (cells_left u at from) in
      let split = those_split G s.before left rows (subst (λ (l : List RowView). AreThose G l rows) s.whole (every_those rows every)) in
      let same : every_after m rows ≡ split.1 = ap (every_after m) split.4 ∙ after_split m split.0 split.1
      (λ r w. let h = those_sound G s.before split.0 split.2 r w in s.early r h.0 h.1)
      (λ r w. let h = those_sound G left split.1 split.3 r w in s.late r h.0 h.1) in
      subst (λ (l : List RowView). AreThose G left l) (sym same) split.3

  -- ---- a granted row against a key

  -- the key of a granted row has the texts by which its request is in order
  row_name : (r : RowView) → Contains (cells_of u) r.cell → G r → texts (cell_key r.cell) ≡ cell_name r.cell
  row_name r w granted = key_texts u r.cell is (in_cells u r.cell w) granted.0

  key_after : (k : KeyTexts) (r : RowView) → Contains (cells_of u) r.cell → G r → IsAfter (Some k) r.cell → key_cmp (cell_key r.cell) k ≡ Greater
  key_after k r w granted after = greater (key_cmp (cell_key r.cell) k) (after_row (Some k) r (row_name r w granted) after)

  after_key : (k : KeyTexts) (r : RowView) → Contains (cells_of u) r.cell → G r → key_cmp (cell_key r.cell) k ≡ Greater → IsAfter (Some k) r.cell
  after_key k r w granted above = row_after (Some k) r (row_name r w granted) (is_greater (key_cmp (cell_key r.cell) k) above)

  late_of : (k : KeyTexts) (b : Option BindingName) (r : RowView) → Contains (cells_of u) r.cell → G r → IsAfter (Some k) r.cell → comes_after k b r ≡ true
  late_of k None r w granted after = after_row (Some k) r (row_name r w granted) after
  late_of k (Some b) r w granted after = (stands_past k b r).1 (inl (key_after k r w granted after))

  -- ---- a start with all bindings of a request

  early_of : (k : KeyTexts) (b : Option BindingName) → (b ≡ None) ⊎ HasNoRequest u k → (r : RowView) → Contains (cells_of u) r.cell → G r → (IsAfter (Some k) r.cell → ⊥) → comes_after k b r ≡ true → ⊥
  early_of k None absent r w granted none after = none (row_after (Some k) r (row_name r w granted) after)
  early_of k (Some b) (inl e) r w granted none after = cc
  early_of k (Some b) (inr absent) r w granted none after = elim ((stands_past k b r).0 after) [
    | inl above ↦ none (after_key k r w granted above)
    | inr same ↦ absent r.cell (in_cells u r.cell w) (sym (row_name r w granted) ∙ ap texts same.0)
  ]

  -- the mark has no binding, or no request of the universe has its key
  abbrev pub IsWhole : Option Mark → Type 0
  IsWhole None = Unit {0}
  IsWhole (Some m) = (m.binding ≡ None) ⊎ HasNoRequest u m.key

  whole_early : (m : Option Mark) → IsWhole m → (r : RowView) → Contains (cells_of u) r.cell → G r → (IsAfter (key_of_mark m) r.cell → ⊥) → ComesAfter m r → ⊥
  whole_early None whole r w granted none after = none tt
  whole_early (Some m) whole r w granted none after = early_of m.key m.binding whole r w granted none after

  whole_late : (m : Option Mark) (r : RowView) → Contains (cells_of u) r.cell → G r → IsAfter (key_of_mark m) r.cell → ComesAfter m r
  whole_late None r w granted after = tt
  whole_late (Some m) r w granted after = late_of m.key m.binding r w granted after

  pub start_whole : (m : Option Mark) (at : Place) (from : ℕ) → IsWhole m → IsStart u (key_of_mark m) at from → IsEveryStart p.held u m at from 0
  start_whole m at from whole s =
      let left = cells_left u at from in
      record {
        before = pairs_of bs s.before;
        whole = ap (pairs_of bs) s.whole ∙ pairs_append bs s.before left ∙ ap (λ (l : List RowView). pairs_of bs s.before ++ l) (sym (pairs_zero bs left));
        early = λ r w granted.
            let c = (in_pairs bs s.before r w).0 in
            whole_early m whole r (rw s.whole (Contains-append_left s.before left r.cell c)) granted (s.early r.cell c);
        late = λ r w granted.
            let c = (in_pairs bs left r (subst (λ (l : List RowView). Contains l r) (pairs_zero bs left) w)).0 in
            whole_late m r (rw s.whole (Contains-append_right s.before left r.cell c)) granted (s.late r.cell c);
      }

  -- ---- a start within the bindings of a request

  module _ (k : KeyTexts) (at : Place) (here_at : ℕ) (own : IsOwnRequest u k at here_at) where
    place_there : here_at < length u.targets
    place_there = omega (arith, slice_get_within (whats u) here_at own.target.here.0 own.target.here.1, length-map u.targets (λ (t : Listed). t.0))

    target_there : (t : Listed) × (slice_get u.targets here_at ≡ Some t)
    target_there = read_some u.targets here_at place_there

    target_ties : target_texts target_there.0 ≡ target_part k
    target_ties =
        let same : own.target.here.0 ≡ target_there.0.0 = same_Some own.target.here.0 target_there.0.0 (sym own.target.here.1 ∙ mapped_at u.targets here_at target_there.0 target_there.1) in
        exact_names (target_texts target_there.0) (target_part k) (subst (λ (x : What). slice_cmp text_cmp (what_texts x) (target_part k) ≡ Equal) same own.target.here.2)

    own_there : IsOwnLine u k at
    own_there = own_line u k at own.line

    abbrev request : Cell
    request = cell_of own_there.0 target_there.0

    request_name : cell_name request ≡ texts k
    request_name =
        ap (λ (x : Text). x ∷ own_there.0.namespace ∷ own_there.0.verb ∷ target_texts target_there.0) own_there.3
        ∙ ap (λ (x : Text). k.principal ∷ x ∷ own_there.0.verb ∷ target_texts target_there.0) own_there.4
        ∙ ap (λ (x : Text). k.principal ∷ k.namespace ∷ x ∷ target_texts target_there.0) own_there.5
        ∙ ap (λ (x : List Text). k.principal ∷ k.namespace ∷ k.verb ∷ x) target_ties

    abbrev after_it : List Cell
    after_it = cells_left u at (here_at + 1)

    left_there : cells_left u at here_at ≡ request ∷ after_it
    left_there = cells_head p policy u at here_at own_there.0 own_there.1 target_there.0 own_there.2 target_there.1

    pub start_past_it : IsStart u (Some k) at (here_at + 1)
    start_past_it = start_found u k at own.line (here_at + 1) (target_found u is k here_at own.target)

    abbrev suffix : (before : List Cell) × (cells_of u ≡ before ++ cells_left u at here_at)
    suffix = own_suffix u k at own.line here_at

    whole_there : cells_of u ≡ suffix.0 ++ request ∷ after_it
    whole_there = suffix.1 ∙ ap (λ (cs : List Cell). suffix.0 ++ cs) left_there

    before_there : suffix.0 ++ request ∷ [] ≡ start_past_it.before
    before_there = append_cancel_right (suffix.0 ++ request ∷ []) start_past_it.before after_it (append_assoc suffix.0 (request ∷ []) after_it ∙ sym whole_there ∙ start_past_it.whole)

    not_after : (c : Cell) → Contains (suffix.0 ++ request ∷ []) c → IsAfter (Some k) c → ⊥
    not_after c w = start_past_it.early c (subst (λ (cs : List Cell). Contains cs c) before_there w)

    other_name : (c : Cell) → Contains suffix.0 c → cell_name c ≡ texts k → ⊥
    other_name c w e =
        let less = before_less cell_name suffix.0 after_it request c (subst (λ (cs : List Cell). IsAscendingBy cell_name cs) whole_there (cells_ascend u is)) w in
        let same : cell_name c ≡ cell_name request = e ∙ sym request_name in
        not_less (by_name cell_name c request) less (ap (λ (n : List Text). slice_cmp text_cmp n (cell_name request)) same ∙ tied_itself (total cell_name) request)

    in_before : (c : Cell) → Contains suffix.0 c → Contains (cells_of u) c
    in_before c w = rw whole_there (Contains-append_left suffix.0 (request ∷ after_it) c w)

    in_rest : (c : Cell) → Contains (request ∷ after_it) c → Contains (cells_of u) c
    in_rest c w = rw whole_there (Contains-append_right suffix.0 (request ∷ after_it) c w)

    module _ (name : BindingName) (b : ℕ) (past : ArePastName bs name b) where
      early_before : (r : RowView) → Contains (pairs_of bs suffix.0) r → G r → comes_after k (Some name) r ≡ true → ⊥
      early_before r w granted after =
          let c = (in_pairs bs suffix.0 r w).0 in
          elim ((stands_past k name r).0 after) [
            | inl above ↦ not_after r.cell (Contains-append_left suffix.0 (request ∷ []) r.cell c) (after_key k r (in_before r.cell c) granted above)
            | inr same ↦ other_name r.cell c (sym (row_name r (in_before r.cell c) granted) ∙ ap texts same.0)
          ]

      early_here : (r : RowView) → Contains (map (pair_of request) (take b bs)) r → G r → comes_after k (Some name) r ≡ true → ⊥
      early_here r w granted after =
          let m = contains_map (pair_of request) (take b bs) r w in
          let s = in_take bs b m.0 m.1 in
          let is_row : pair_of request m.0 ≡ r = m.2 in
          let it : G (pair_of request m.0) = subst G (sym is_row) granted in
          elim ((stands_past k name (pair_of request m.0)).0 (subst (λ (x : RowView). comes_after k (Some name) x ≡ true) (sym is_row) after)) [
            | inl above ↦ not_after request (Contains-append_right suffix.0 (request ∷ []) request (here request [])) (after_key k (pair_of request m.0) (in_rest request (here request after_it)) it above)
            | inr same ↦ past.below s.0 m.0 s.1 s.2 same.1
          ]

      late_here : (r : RowView) → Contains (map (pair_of request) (drop b bs)) r → G r → comes_after k (Some name) r ≡ true
      late_here r w granted =
          let f = first_in bs request b r w in
          let it : G (pair_of request f.1) = subst G (sym f.4) granted in
          let key : cell_key request ≡ k = same_key (cell_key request) k (row_name (pair_of request f.1) (in_rest request (here request after_it)) it ∙ request_name) in
          subst (λ (x : RowView). comes_after k (Some name) x ≡ true) f.4 ((stands_past k name (pair_of request f.1)).1 (inr (key, past.above f.0 f.1 f.2 f.3)))

      late_rest : (r : RowView) → Contains (pairs_of bs after_it) r → G r → comes_after k (Some name) r ≡ true
      late_rest r w granted =
          let c = (in_pairs bs after_it r w).0 in
          late_of k (Some name) r (in_rest r.cell (there request after_it r.cell c)) granted (start_past_it.late r.cell c)

      abbrev start_pairs : List RowView
      start_pairs = pairs_of bs suffix.0 ++ map (pair_of request) (take b bs)

      pairs_whole : pairs_of bs (cells_of u) ≡ start_pairs ++ pairs_from bs b (cells_left u at here_at)
      pairs_whole =
          let halves : map (pair_of request) bs ≡ map (pair_of request) (take b bs) ++ map (pair_of request) (drop b bs) =
          ap (map (pair_of request)) (sym (take-append-drop b bs)) ∙ map-append (pair_of request) (take b bs) (drop b bs) in
          let rest : pairs_of bs (request ∷ after_it) ≡ map (pair_of request) (take b bs) ++ pairs_from bs b (request ∷ after_it) =
          ap (λ (l : List RowView). l ++ pairs_of bs after_it) halves ∙ append_assoc (map (pair_of request) (take b bs)) (map (pair_of request) (drop b bs)) (pairs_of bs after_it) in
          ap (pairs_of bs) whole_there ∙ pairs_append bs suffix.0 (request ∷ after_it) ∙ ap (λ (l : List RowView). pairs_of bs suffix.0 ++ l) rest
          ∙ sym (append_assoc (pairs_of bs suffix.0) (map (pair_of request) (take b bs)) (pairs_from bs b (request ∷ after_it)))
          ∙ ap (λ (cs : List Cell). start_pairs ++ pairs_from bs b cs) (sym left_there)

      late_all : (r : RowView) → Contains (pairs_from bs b (request ∷ after_it)) r → G r → comes_after k (Some name) r ≡ true
      late_all r w granted = elim (Contains-append_cases (map (pair_of request) (drop b bs)) (pairs_of bs after_it) r w) [
        | inl v ↦ late_here r v granted
        | inr v ↦ late_rest r v granted
      ]

      pub start_own : IsEveryStart p.held u (Some (record { key = k; binding = Some name })) at here_at b
      start_own = record {
        before = start_pairs;
        whole = pairs_whole;
        early = λ r w granted after. elim (Contains-append_cases (pairs_of bs suffix.0) (map (pair_of request) (take b bs)) r w) [
          | inl v ↦ early_before r v granted after
          | inr v ↦ early_here r v granted after
        ];
        late = λ r w granted. late_all r (subst (λ (cs : List Cell). Contains (pairs_from bs b cs) r) left_there w) granted;
      }

    pub key_own : IsKeyStart u (Some k) at here_at
    key_own = record { first = here_at + 1; start = start_past_it; line = inl own_there; within = omega arith }

-- if the universe doesn't have the key's line or target, it has no request with the key
pub no_line : (u : UniverseView) (k : KeyTexts) → HasNoLine u k → HasNoRequest u k
no_line u k none c of e =
    let who : who_key c.who ≡ k.principal = cc in
    let namespace : c.namespace ≡ k.namespace = cc in
    let verb : c.verb ≡ k.verb = cc in
    none c of who namespace verb

pub no_target : (u : UniverseView) (is : IsUniverse u) (k : KeyTexts) (i : ℕ) → IsGapAt (slice_cmp text_cmp) what_texts (whats u) (target_part k) i → HasNoRequest u k
no_target u is k i gap c of e =
    let same : what_texts c.target.0 ≡ target_part k = cc in
    gap_absent (slice_cmp text_cmp) (lists_total nat_list_cmp_total) what_texts (whats u) (whats_up u is k) (target_part k) i gap c.target.0 (map_contains (λ (t : Listed). t.0) u.targets c.target of.3) same

pub own_within : (u : UniverseView) (k : KeyTexts) (at : Place) (i : ℕ) → IsOwnRequest u k at i → i < length u.targets
own_within u k at i own = omega (arith, slice_get_within (whats u) i own.target.here.0 own.target.here.1, length-map u.targets (λ (t : Listed). t.0))

pub own_few : (u : UniverseView) (k : KeyTexts) (at : Place) (i : ℕ) → IsOwnRequest u k at i → length u.targets ≤ most_targets → i ≤ most_targets
own_few u k at i own few = omega (arith, own_within u k at i own)

pub own_settled_at : (u : UniverseView) (k : KeyTexts) (at : Place) (i : ℕ) → IsOwnRequest u k at i → IsSettled u at
own_settled_at u k at i own = own_settled u k at own.line

pub key_whole : (u : UniverseView) (k : Option KeyTexts) (at : Place) (from : ℕ) → IsStart u k at from → BeginsOnLine u k at from → IsKeyStart u k at from
key_whole u k at from s begins = record { first = from; start = s; line = begins; within = omega arith }

-- a mark is the same as the mark made of its key and its binding's name
pub start_parts : (h : Held) (u : UniverseView) (m : Mark) (name : BindingName) (at : Place) (from b : ℕ) → m.binding ≡ Some name → IsEveryStart h u (Some (record { key = m.key; binding = Some name })) at from b → IsEveryStart h u (Some m) at from b
start_parts h u m name at from b e s =
    let same : record { key = m.key; binding = Some name } ≡ m = ap (λ (n : Option BindingName). record { key = m.key; binding = n }) (sym e) in
    subst (λ (x : Mark). IsEveryStart h u (Some x) at from b) same s

-- no grant has a number below 0
pub below_none : (p : PolicyView) → AreBelow p 0 0
below_none p n at of = (λ lt. absurd (omega arith), λ lt. absurd (omega arith))

-- ---- the bindings after a name

module _ (xs : List Binding) (name : BindingName) where
  by_place : (i j : ℕ) (x : Binding) → i ≤ j → slice_get xs j ≡ Some x → Contains (drop i xs) x
  by_place i j x le at = drop_in xs i j x le at

  pub past_gap : (i : ℕ) → IsGapAt (slice_cmp text_cmp) binding_name xs (name_texts (Some name)) i → ArePastName xs name i
  past_gap i g = record {
    below = λ j x lt at. not_greater _ (g.below x (take_in xs i j x lt at));
    above = λ j x le at. g.above x (by_place i j x le at);
  }

  pub past_found : (i : ℕ) → IsFoundAt (slice_cmp text_cmp) binding_name xs (name_texts (Some name)) i → ArePastName xs name (i + 1)
  past_found i f = record {
    below = λ j x lt at. elim (cases_lt j i) [
      | inl less ↦ not_greater _ (f.below x (take_in xs i j x less at))
      | inr ge ↦
          let e : j ≡ i = omega (arith, lt) in
          let same : f.here.0 ≡ x = same_Some f.here.0 x (sym f.here.1 ∙ (rw e at at)) in
          not_tied _ (rw same at f.here.2)
    ];
    above = λ j x le at. f.above x (by_place (i + 1) j x le at);
  }
