-- an enumeration of every granting binding from one call to the next
use Rattle.std.proofs.Common.{◌≡◌, ℕ, ◌+◌, ◌<◌, ◌≤◌, ◌⊎◌, List, [], ◌∷◌, ◌++◌, length, drop, map, Contains, refl, ap, ◌∙◌, sym, arith, append_assoc, subst, inl, inr, length-append}
use Rattle.std.specs.Prelude.{Some, slice_get, ◌↔◌}
use Rattle.std.specs.List.{flat_map}
use Rattle.std.proofs.lemmas.Bool.{cases_lt}
use Rattle.std.proofs.lemmas.List.Elements.{Contains-append_cases}
use Rattle.std.proofs.lemmas.Option.{same_Some, slice_get_within}
use Rattle.rbac_terms.specs.declared.granting.Binding.{Binding}
use Rattle.rbac_terms.proofs.Reading.{read_some}
use Rattle.rbac_model.specs.Policies.{PolicyView, IsPolicy, GrantView, IsOfBinding}
use Rattle.rbac_model.specs.Universes.{UniverseView, Listed, Cell, RowView}
use Rattle.rbac_universe.proofs.Flattened.{here, there}
use Rattle.rbac_matrix.specs.Lines.{LineView, cells_of_lines, line_cells_from, lines_from}
use Rattle.rbac_matrix.specs.Pairs.{AreThose, IsGranted, pair_of, pairs_of}
use Rattle.rbac_matrix.specs.EveryLeft.{AreBelow, PassesBinding, pairs_from}
use Rattle.rbac_matrix.specs.Passing.{PassesLine, EndsAll, FindsCell, HasNoHit, IsNoEarlier, IsHit, IsNextHit, Passes, cell_of, cells_left, row_on}
use Rattle.rbac_matrix.specs.declared.line.Place.{Place}
use Rattle.rbac_matrix.specs.declared.seat.Seat.{Seat}
use Rattle.rbac_matrix.proofs.EnumLemmas.{cells_at, line_ends, line_passes, skips_pass}
use Rattle.rbac_matrix.proofs.GoingLemmas.{none_given}
use Rattle.rbac_matrix.proofs.HitLemmas.{from_then, from_zero, next_first, next_from, next_onward, next_within, none_passes, passes_to}
use Rattle.rbac_matrix.proofs.PairLemmas.{between, cell_split, first_in, next_binding, none_before, none_granted, others_in, pairs_append, pairs_zero, rowless_pairs, split_in, those_next}
use Rattle.rbac_matrix.proofs.PassLemmas.{line_step, passes_then}

-- `row` comes after pairs that aren't granted, and the pairs of `new` come after it
pub record Splits (p : PolicyView) (old new : List RowView) (row : RowView) : Type 0 where
  pub skipped : List RowView
  pub whole : old ≡ skipped ++ row ∷ new
  pub none : (r : RowView) → Contains skipped r → IsGranted p.held r → ⊥

pub split_fewer : (p : PolicyView) (old new : List RowView) (row : RowView) → Splits p old new row → length new < length old
split_fewer p old new row s = omega (arith, ap length s.whole, length-append s.skipped (row ∷ new))

pub split_those : (p : PolicyView) (old new : List RowView) (row : RowView) → Splits p old new row → IsGranted p.held row
    → (all : List RowView) → AreThose (IsGranted p.held) old all ↔ ((others : List RowView) × (all ≡ row ∷ others) × AreThose (IsGranted p.held) new others)
split_those p old new row s granted = those_next (IsGranted p.held) old s.skipped new row s.whole s.none granted

those_empty : {X : Type 0} (P : X → Type 0) (xs : List X) → ((x : X) → Contains xs x → P x → ⊥) → AreThose P xs []
those_empty P [] none = refl
those_empty P (x ∷ xs) none = inr (none x (here x xs), those_empty P xs (λ y w. none y (there x xs y w)))

module _ (p : PolicyView) (policy : IsPolicy p) where
  abbrev bs : List Binding
  bs = p.held.bindings

  -- no binding grants one of these requests
  abbrev AreUngranted : List Cell → Type 0
  AreUngranted cs = (e : Cell) (y : Binding) → Contains cs e → Contains bs y → IsGranted p.held (pair_of e y) → ⊥

  ungranted_pairs : (cs : List Cell) → AreUngranted cs → (r : RowView) → Contains (pairs_of bs cs) r → IsGranted p.held r → ⊥
  ungranted_pairs cs none r w granted =
      let o = others_in bs cs r w in none o.0 o.1 o.2 o.3 (subst (IsGranted p.held) (sym o.4) granted)

  ungranted_first : (d : Cell) (b : ℕ) → ((j : ℕ) (y : Binding) → b ≤ j → slice_get bs j ≡ Some y → IsGranted p.held (pair_of d y) → ⊥)
      → (r : RowView) → Contains (map (pair_of d) (drop b bs)) r → IsGranted p.held r → ⊥
  ungranted_first d b none r w granted =
      let f = first_in bs d b r w in none f.0 f.1 f.2 f.3 (subst (IsGranted p.held) (sym f.4) granted)

  module _ (c : Cell) (cs : List Cell) (i : ℕ) (x : Binding) (at : slice_get bs i ≡ Some x) where
    -- the first binding, from place b on, that grants this request
    here_split : (b : ℕ) → b ≤ i → ((j : ℕ) (y : Binding) → b ≤ j → j < i → slice_get bs j ≡ Some y → IsGranted p.held (pair_of c y) → ⊥)
        → Splits p (pairs_from bs b (c ∷ cs)) (pairs_from bs (i + 1) (c ∷ cs)) (pair_of c x)
    here_split b le none = record {
      skipped = map (pair_of c) (between bs b i x le at).0;
      whole = cell_split bs c cs i x at b le;
      none = λ r w granted. let s = split_in bs c cs i x at b le r w in none s.0 s.1 s.2 s.3 s.4 (subst (IsGranted p.held) (sym s.5) granted);
    }

    module _ (none : (j : ℕ) (y : Binding) → j < i → slice_get bs j ≡ Some y → IsGranted p.held (pair_of c y) → ⊥) where
      -- the same if requests that no binding grants come before
      plain_split : (before : List Cell) → AreUngranted before → Splits p (pairs_of bs (before ++ c ∷ cs)) (pairs_from bs (i + 1) (c ∷ cs)) (pair_of c x)
      plain_split before ungranted =
          let s = here_split 0 (omega arith) (λ j y le lt. none j y lt) in
          record {
            skipped = pairs_of bs before ++ s.skipped;
            whole = pairs_append bs before (c ∷ cs) ∙ ap (λ (l : List RowView). pairs_of bs before ++ l) s.whole ∙ sym (append_assoc (pairs_of bs before) s.skipped (pair_of c x ∷ pairs_from bs (i + 1) (c ∷ cs)));
            none = λ r w. elim (Contains-append_cases (pairs_of bs before) s.skipped r w) [
              | inl v ↦ ungranted_pairs before ungranted r v
              | inr v ↦ s.none r v
            ];
          }

      past_split : (b : ℕ) (d : Cell) (before : List Cell) → ((j : ℕ) (y : Binding) → b ≤ j → slice_get bs j ≡ Some y → IsGranted p.held (pair_of d y) → ⊥) → AreUngranted before
          → Splits p (pairs_from bs b (d ∷ before ++ c ∷ cs)) (pairs_from bs (i + 1) (c ∷ cs)) (pair_of c x)
      past_split b d before first ungranted =
          let s = plain_split before ungranted in
          record {
            skipped = map (pair_of d) (drop b bs) ++ s.skipped;
            whole = ap (λ (l : List RowView). map (pair_of d) (drop b bs) ++ l) s.whole ∙ sym (append_assoc (map (pair_of d) (drop b bs)) s.skipped (pair_of c x ∷ pairs_from bs (i + 1) (c ∷ cs)));
            none = λ r w. elim (Contains-append_cases (map (pair_of d) (drop b bs)) s.skipped r w) [
              | inl v ↦ ungranted_first d b first r v
              | inr v ↦ s.none r v
            ];
          }

  -- no binding grants the requests that are passed without a row
  passed_ungranted : (cs ds : List Cell) (s : Passes p.held cs ds []) → AreUngranted s.between
  passed_ungranted cs ds s = rowless_pairs p policy s.between s.are

  module _ (u : UniverseView) where
    -- the requests that are left: the one for the target at `from`, and those after it
    pub cells_head : (at : Place) (from : ℕ) (l : LineView) (ls : List LineView) (t : Listed) → lines_from u at ≡ l ∷ ls → slice_get u.targets from ≡ Some t → cells_left u at from ≡ cell_of l t ∷ cells_left u at (from + 1)
    cells_head at from l ls t e read =
        cells_at p.held u at from l ls e ∙ ap (λ (cs : List Cell). cs ++ flat_map (line_cells_from u 0) ls) (line_step u l from t read) ∙ ap (λ (cs : List Cell). cell_of l t ∷ cs) (sym (cells_at p.held u at (from + 1) l ls e))

    -- there is no row on the rest of a line without a further hit, and on the lines that are
    -- skipped
    comes_pass : (at : Place) (from upto : ℕ) (to : Place) (k : PassesLine p u at from upto to) (later : ℕ) → HasNoHit p u k.line later 0 → Passes p.held (cells_left u at later) (cells_left u to 0) []
    comes_pass at from upto to k later none =
        passes_then p.held (cells_left u at later) (cells_left u k.next 0) (cells_left u to 0) [] []
        (line_ends p.held u at k.next later k.line k.line_at (none_passes p u k.line policy later none))
        (skips_pass p.held u k.next to k.skips)

    none_later : (l : LineView) (from upto : ℕ) → HasNoHit p u l from upto → HasNoHit p u l (from + 1) 0
    none_later l from upto none q k h f = none q k h (from_then q k (from + 1) 0 from upto f (next_from from upto))

    none_there : (l : LineView) (from : ℕ) → length u.targets ≤ from → HasNoHit p u l from 0
    none_there l from over q k h f =
        let within = slice_get_within u.targets q h.target h.target_at in
        elim f [ inl lt ↦ omega arith | inr same ↦ omega (arith, same.0) ]

    none_below : (upto : ℕ) → upto ≡ 0 → AreBelow p upto 0
    none_below upto e n i of = (λ lt. absurd (omega arith), λ lt. absurd (omega arith))

    module _ (place number start end i : ℕ) (of : IsOfBinding p number i) (own : (n at : ℕ) → IsOfBinding p n at → ((start ≤ n) × (n < end)) ↔ (at ≡ i)) (ends : (n at : ℕ) → IsOfBinding p n at → (n < end) ↔ (at ≤ i)) where
      binding_at : (l : LineView) (h : IsHit p u l place number) → slice_get bs i ≡ Some h.grant.binding
      binding_at l h = of.2 ∙ ap (λ (g : GrantView). Some g.binding) (same_Some of.0 h.grant (sym of.1 ∙ h.grant_at))

      -- the next hit is on the same line
      module _ (at : Place) (l : LineView) (ls : List LineView) (line_at : lines_from u at ≡ l ∷ ls) (from upto b : ℕ) (below : AreBelow p upto b) (next : IsNextHit p u l from upto place number) where
        abbrev c : Cell
        c = cell_of l next.hit.target

        found_cells : cells_left u at place ≡ c ∷ cells_left u at (place + 1)
        found_cells = cells_head at place l ls next.hit.target line_at next.hit.target_at

        early : (j : ℕ) (y : Binding) → (from < place) ⊎ ((from ≡ place) × (b ≤ j)) → j < i → slice_get bs j ≡ Some y → IsGranted p.held (pair_of c y) → ⊥
        early j y onward lt bound = none_before p policy u l from upto b below place number start end i next of own ends place j next.hit.target y next.hit.target_at bound onward (inr (refl, lt))

        -- there is no row before the place of the hit
        to_place : (first : ℕ) → first ≤ place → ((q k : ℕ) → first ≤ q → IsNoEarlier q k from upto) → Passes p.held (cells_left u at first) (cells_left u at place) []
        to_place first le onward =
            line_passes p.held u at first place l ls [] line_at
            (passes_to p u l policy first place le (let w = next_within p u l policy from upto place number next in omega arith)
            (λ q k h ge lt. next_first p u l policy from upto place number next q k h (onward q k ge) lt))

        pub same_split : Splits p (pairs_from bs b (cells_left u at from)) (pairs_from bs (i + 1) (cells_left u at place)) (row_on p u l place number next.hit)
        same_split = elim (cases_lt from place) [
          | inl lt ↦
              let t = read_some u.targets from (let w = next_within p u l policy from upto place number next in omega arith) in
              let rest = to_place (from + 1) (omega arith) (λ q k ge. inl (omega arith)) in
              let cells : cells_left u at from ≡ cell_of l t.0 ∷ rest.between ++ c ∷ cells_left u at (place + 1) =
              cells_head at from l ls t.0 line_at t.1 ∙ ap (λ (cs : List Cell). cell_of l t.0 ∷ cs) (rest.whole ∙ ap (λ (cs : List Cell). rest.between ++ cs) found_cells) in
              rw (cells, found_cells) (past_split c (cells_left u at (place + 1)) i next.hit.grant.binding (binding_at l next.hit) (λ j y less. early j y (inl lt) less) b (cell_of l t.0) rest.between
              (λ j y le bound. none_before p policy u l from upto b below place number start end i next of own ends from j t.0 y t.1 bound (inr (refl, le)) (inl lt))
              (passed_ungranted (cells_left u at (from + 1)) (cells_left u at place) rest))
          | inr ge ↦
              let e : from ≡ place = (let w = next_onward p u l policy from upto place number next in omega arith) in
              rw (e, found_cells) (here_split c (cells_left u at (place + 1)) i next.hit.grant.binding (binding_at l next.hit) b
              (next_binding p policy u l from upto b below place number start end i next of own ends e) (λ j y le less. early j y (inr (e, le)) less))
        ]

      -- the next hit is on a later line
      module _ (at : Place) (from upto b : ℕ) (below : AreBelow p upto b) (within : (b ≡ 0) ⊎ (from < length u.targets)) (to : Place) (l : LineView) (ls : List LineView) (line_at : lines_from u to ≡ l ∷ ls)
          (begin low : ℕ) (next : IsNextHit p u l begin low place number) (zero_from : begin ≡ 0) (zero_low : low ≡ 0) (k : PassesLine p u at from upto to) where
        late : (j : ℕ) (y : Binding) → j < i → slice_get bs j ≡ Some y → IsGranted p.held (pair_of (cell_of l next.hit.target) y) → ⊥
        late j y less bound = early to l ls line_at begin low 0 (none_below low zero_low) next j y
            (elim (cases_lt begin place) [ inl lt ↦ inl lt | inr ge ↦ inr (omega arith, omega arith) ]) less bound

        on_line : Passes p.held (cells_left u to 0) (cells_left u to place) []
        on_line = to_place to l ls line_at begin low 0 (none_below low zero_low) next 0 (omega arith) (λ q k ge. from_zero q k begin low zero_low (omega arith))

        passes_all : (later : ℕ) → HasNoHit p u k.line later 0 → Passes p.held (cells_left u at later) (cells_left u to place) []
        passes_all later none = passes_then p.held (cells_left u at later) (cells_left u to 0) (cells_left u to place) [] [] (comes_pass at from upto to k later none) on_line

        found_there : cells_left u to place ≡ cell_of l next.hit.target ∷ cells_left u to (place + 1)
        found_there = found_cells to l ls line_at begin low 0 (none_below low zero_low) next

        pub later_split : Splits p (pairs_from bs b (cells_left u at from)) (pairs_from bs (i + 1) (cells_left u to place)) (row_on p u l place number next.hit)
        later_split = elim (cases_lt from (length u.targets)) [
          | inl lt ↦
              let t = read_some u.targets from lt in
              let rest = passes_all (from + 1) (none_later k.line from upto k.none) in
              let cells : cells_left u at from ≡ cell_of k.line t.0 ∷ rest.between ++ cell_of l next.hit.target ∷ cells_left u to (place + 1) =
              cells_head at from k.line (lines_from u k.next) t.0 k.line_at t.1 ∙ ap (λ (cs : List Cell). cell_of k.line t.0 ∷ cs) (rest.whole ∙ ap (λ (cs : List Cell). rest.between ++ cs) found_there) in
              rw (cells, found_there) (past_split (cell_of l next.hit.target) (cells_left u to (place + 1)) i next.hit.grant.binding (binding_at l next.hit) late b (cell_of k.line t.0) rest.between
              (λ j y le bound. none_granted p policy u k.line from upto b below k.none from j t.0 y t.1 bound (inr (refl, le)))
              (passed_ungranted (cells_left u at (from + 1)) (cells_left u to place) rest))
          | inr ge ↦
              let e : b ≡ 0 = elim within [ inl z ↦ z | inr lt ↦ absurd (omega arith) ] in
              let rest = passes_all from (none_there k.line from ge) in
              let cells : cells_left u at from ≡ rest.between ++ cell_of l next.hit.target ∷ cells_left u to (place + 1) = rest.whole ∙ ap (λ (cs : List Cell). rest.between ++ cs) found_there in
              rw (e, pairs_zero bs (cells_left u at from), cells, found_there)
              (plain_split (cell_of l next.hit.target) (cells_left u to (place + 1)) i next.hit.grant.binding (binding_at l next.hit) late rest.between (passed_ungranted (cells_left u at from) (cells_left u to place) rest))
        ]

      -- the pair of the next hit is the first granted pair that is left
      pub cell_split_all : (rs : List (List ℕ)) (at : Place) (from upto b : ℕ) (to : Place) (seats : List Seat) → AreBelow p upto b → (b ≡ 0) ⊎ (from < length u.targets) → (f : FindsCell p u rs at from upto to seats place number)
          → Splits p (pairs_from bs b (cells_left u at from)) (pairs_from bs (i + 1) (cells_left u to place)) (row_on p u f.line place number f.found.next.hit)
      cell_split_all rs at from upto b to seats below within f = elim f.leads [
        | inl same ↦ rw (sym same.0, sym same.1) (same_split to f.line f.others f.line_at f.begin f.low b (rw (sym same.2) at below) f.found.next)
        | inr later ↦ later_split at from upto b below within to f.line f.others f.line_at f.begin f.low f.found.next later.0 later.1 later.2
      ]

    -- if no further hit is left on any line, no granted pair is left
    nothing_left : (at : Place) (from upto b : ℕ) (to : Place) → AreBelow p upto b → (b ≡ 0) ⊎ (from < length u.targets) → lines_from u to ≡ [] → PassesLine p u at from upto to
        → (r : RowView) → Contains (pairs_from bs b (cells_left u at from)) r → IsGranted p.held r → ⊥
    nothing_left at from upto b to below within ended k = elim (cases_lt from (length u.targets)) [
      | inl lt ↦
          let t = read_some u.targets from lt in
          let rest = comes_pass at from upto to k (from + 1) (none_later k.line from upto k.none) in
          let rows = none_given p.held (cells_left u at (from + 1)) (subst (λ (cs : List Cell). Passes p.held (cells_left u at (from + 1)) cs []) (ap (cells_of_lines u 0) ended) rest) in
          λ r w. elim (Contains-append_cases (map (pair_of (cell_of k.line t.0)) (drop b bs)) (pairs_of bs (cells_left u at (from + 1))) r (rw (cells_head at from k.line (lines_from u k.next) t.0 k.line_at t.1) at w)) [
            | inl v ↦ ungranted_first (cell_of k.line t.0) b (λ j y le bound. none_granted p policy u k.line from upto b below k.none from j t.0 y t.1 bound (inr (refl, le))) r v
            | inr v ↦ ungranted_pairs (cells_left u at (from + 1)) (rowless_pairs p policy (cells_left u at (from + 1)) rows) r v
          ]
      | inr ge ↦
          let e : b ≡ 0 = elim within [ inl z ↦ z | inr lt ↦ absurd (omega arith) ] in
          let rest = comes_pass at from upto to k from (none_there k.line from ge) in
          let rows = none_given p.held (cells_left u at from) (subst (λ (cs : List Cell). Passes p.held (cells_left u at from) cs []) (ap (cells_of_lines u 0) ended) rest) in
          λ r w. ungranted_pairs (cells_left u at from) (rowless_pairs p policy (cells_left u at from) rows) r (rw (e, pairs_zero bs (cells_left u at from)) at w)
    ]

    pub none_left : (rs : List (List ℕ)) (at : Place) (from upto b : ℕ) (to : Place) (seats : List Seat) → AreBelow p upto b → (b ≡ 0) ⊎ (from < length u.targets) → EndsAll p u rs at from upto to seats
        → AreThose (IsGranted p.held) (pairs_from bs b (cells_left u at from)) []
    none_left rs at from upto b to seats below within f = elim f.leads [
      | inl same ↦ subst (λ (ls : List LineView). AreThose (IsGranted p.held) (pairs_from bs b (cells_of_lines u from ls)) []) (sym (ap (lines_from u) (sym same.0) ∙ f.ended)) refl
      | inr later ↦ those_empty (IsGranted p.held) (pairs_from bs b (cells_left u at from)) (nothing_left at from upto b to below within f.ended later.2)
    ]

-- past the last line, no pair is left
pub past_left : (p : PolicyView) (u : UniverseView) (at : Place) (from b : ℕ) → lines_from u at ≡ [] → AreThose (IsGranted p.held) (pairs_from p.held.bindings b (cells_left u at from)) []
past_left p u at from b e = subst (λ (ls : List LineView). AreThose (IsGranted p.held) (pairs_from p.held.bindings b (cells_of_lines u from ls)) []) (sym e) refl

-- after a grant's binding is passed
module _ (p : PolicyView) (number place end : ℕ) (h : PassesBinding p number place end) where
  pub passes_own : number < end
  passes_own = ((h.own number h.at h.of).1 refl).1

  -- the grants below `end` are those of the bindings up to the grant's own
  pub passes_below : AreBelow p end place
  passes_below n at of = let e = h.ends n at of in (λ lt. let le = e.0 lt in omega (arith, h.is), λ lt. e.1 (omega (arith, h.is)))

pub passes_split : (p : PolicyView) (policy : IsPolicy p) (u : UniverseView) (place number next end : ℕ) (h : PassesBinding p number next end) (rs : List (List ℕ)) (at : Place) (from upto b : ℕ) (to : Place) (seats : List Seat)
    → AreBelow p upto b → (b ≡ 0) ⊎ (from < length u.targets) → (f : FindsCell p u rs at from upto to seats place number)
    → Splits p (pairs_from p.held.bindings b (cells_left u at from)) (pairs_from p.held.bindings next (cells_left u to place)) (row_on p u f.line place number f.found.next.hit)
passes_split p policy u place number next end h rs at from upto b to seats below within f =
    rw h.is (cell_split_all p policy u place number h.start end h.at h.of h.own h.ends rs at from upto b to seats below within f)
