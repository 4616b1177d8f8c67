-- the rows of lines that have only repeats
use Rattle.std.proofs.Common.{◌≡◌, ℕ, ◌<◌, ◌≤◌, List, [], ◌∷◌, ◌++◌, true, Contains, drop, get_or, map, length, length-append, ap, ◌∙◌, sym, arith, append_assoc, subst, inl, inr}
use Rattle.std.specs.Prelude.{Some}
use Rattle.std.specs.List.{flat_map}
use Rattle.std.proofs.lemmas.List.Elements.{Contains-append_cases, Contains-get_or}
use Rattle.std.proofs.lemmas.Grind.{flat_map-append}
use Rattle.std.proofs.lemmas.Option.{get_or_from_slice_get, slice_get-get_or, slice_get_within}
use Rattle.rbac_terms.specs.declared.granting.Binding.{Binding}
use Rattle.rbac_terms.proofs.Reading.{read_some}
use Rattle.rbac_model.specs.Policies.{PolicyView, IsPolicy}
use Rattle.rbac_model.specs.Universes.{UniverseView, Cell, RowView}
use Rattle.rbac_universe.proofs.Flattened.{contains_flat, contains_map, here, there}
use Rattle.rbac_matrix.specs.RepeatedLines.{HasRepeatsLeft, PassesLines}
use Rattle.rbac_matrix.specs.Cells.{AreRowsOf}
use Rattle.rbac_matrix.specs.Enumeration.{AreLeft, GoesOn, requests_left}
use Rattle.rbac_matrix.specs.EveryLeft.{AreEveryLeft, pairs_from, pairs_left}
use Rattle.rbac_matrix.specs.Lines.{LineView, line_cells_from, lines_from}
use Rattle.rbac_matrix.specs.Once.{PassesSome, is_repeat}
use Rattle.rbac_matrix.specs.Pairs.{AreThose, IsGranted, pair_of, pairs_of}
use Rattle.rbac_matrix.specs.Passing.{Passes, cell_of, cells_left}
use Rattle.rbac_matrix.specs.declared.enumeration.Rows.{Rows}
use Rattle.rbac_matrix.specs.declared.every_rows.EveryRows.{EveryRows}
use Rattle.rbac_matrix.specs.declared.line.Place.{Place}
use Rattle.rbac_matrix.proofs.EnumLemmas.{cells_at, whole_cells}
use Rattle.rbac_matrix.proofs.LinesLemmas.{drop_at}
use Rattle.rbac_matrix.proofs.OnceLemmas.{AreRepeats, cells, left_passes, passes_few}
use Rattle.rbac_matrix.proofs.OneEvery.{decided_pair}
use Rattle.rbac_matrix.proofs.PairLemmas.{first_in, others_in, pairs_append, pairs_zero}
use Rattle.rbac_matrix.proofs.PassLemmas.{line_step}
use Rattle.rbac_matrix.proofs.RowLemmas.{rows_sound}
use Rattle.rbac_matrix.proofs.SearchLemmas.{in_drop}
use Rattle.rbac_matrix.proofs.SomeMatrix.{some_rows}
use Rattle.rbac_matrix.proofs.ThoseLemmas.{some_those, those_append, those_one, those_sound, those_split}

module _ (p : PolicyView) (policy : IsPolicy p) (u : UniverseView) (at to : Place) (from : ℕ) (q : PassesLines p u at from to) where
  -- the requests that are passed
  abbrev pub between_cells : List Cell
  between_cells = line_cells_from u from q.line ++ flat_map (line_cells_from u 0) q.more

  pub between_whole : cells_left u at from ≡ between_cells ++ cells_left u to 0
  between_whole =
      cells_at p.held u at from q.line (q.more ++ lines_from u to) q.whole
      ∙ ap (λ (cs : List Cell). line_cells_from u from q.line ++ cs) (flat_map-append (line_cells_from u 0) q.more (lines_from u to) ∙ ap (λ (cs : List Cell). flat_map (line_cells_from u 0) q.more ++ cs) (sym (whole_cells p.held u (lines_from u to))))
      ∙ sym (append_assoc (line_cells_from u from q.line) (flat_map (line_cells_from u 0) q.more) (cells_left u to 0))

  on_line : (n : ℕ) (l : LineView) → HasRepeatsLeft p u l n → (c : Cell) (b : Binding) → Contains (line_cells_from u n l) c → Contains p.held.bindings b → IsGranted p.held (pair_of c b) → is_repeat (pair_of c b) ≡ true
  unfolding line_cells_from
  on_line n l left c b w bound granted =
      let m = contains_map (cell_of l) (drop n u.targets) c w in
      let t = in_drop u.targets n m.0 m.1 in
      subst (λ (d : Cell). is_repeat (pair_of d b) ≡ true) m.2 (left t.0 t.1 (slice_get_within u.targets t.0 m.0 t.2) bound.0 m.0 b t.2 (slice_get-get_or p.held.bindings bound.0 b bound.1 ∙ ap (λ (x : Binding). Some x) bound.2) (subst (λ (d : Cell). IsGranted p.held (pair_of d b)) (sym m.2) granted))

  -- if a binding grants one of these requests, their pair is a repeat
  pub between_repeats : (c : Cell) (b : Binding) → Contains between_cells c → Contains p.held.bindings b → IsGranted p.held (pair_of c b) → is_repeat (pair_of c b) ≡ true
  between_repeats c b w bound granted = elim (Contains-append_cases (line_cells_from u from q.line) (flat_map (line_cells_from u 0) q.more) c w) [
    | inl v ↦ on_line from q.line q.rest c b v bound granted
    | inr v ↦
        let f = contains_flat (line_cells_from u 0) q.more c v in
        on_line 0 f.0 (λ place low high. q.repeats f.0 f.1 place) c b f.2 bound granted
  ]

  pub some_between : from < length u.targets → 0 < length between_cells
  some_between lt =
      let t = read_some u.targets from lt in
      let e = ap length (line_step u q.line from t.0 t.1) in
      omega (arith, e, length-append (line_cells_from u from q.line) (flat_map (line_cells_from u 0) q.more))

  abbrev rows : List RowView
  rows = (some_rows p policy between_cells).0

  are_rows : AreRowsOf p.held between_cells rows
  are_rows = (some_rows p policy between_cells).1

  row_is : (r : RowView) → Contains rows r → is_repeat r ≡ true
  row_is r w =
      let s = rows_sound p.held between_cells rows are_rows r w in
      let first = s.1.1 in
      between_repeats r.cell r.binding s.0 (first.0, slice_get_within p.held.bindings first.0 r.binding first.1.here, get_or_from_slice_get p.held.bindings first.0 r.binding r.binding first.1.here) (s.1.0, first.1.holds)

  -- the rows of these requests are passed, and are repeats
  pub between_passes : (rs : List RowView) × Passes p.held (cells_left u at from) (cells_left u to 0) rs × AreRepeats rs
  between_passes = (rows, record { between = between_cells; whole = between_whole; are = are_rows }, λ i d lt. row_is (get_or rows i d) (Contains-get_or rows i d lt))

module _ (t v : Rows) (policy : IsPolicy t.index.now) (on : GoesOn t v) (q : PassesLines t.index.now t.universe.now t.at t.from v.at) (none : v.from ≡ 0) where
  lines_passes : (rs : List RowView) × Passes t.index.now.held (cells t) (cells v) rs × AreRepeats rs
  lines_passes = rw (on.universe, none) (between_passes t.index.now policy t.universe.now t.at v.at t.from q)

  pub lines_some : PassesSome (AreLeft t) (AreLeft v)
  lines_some = left_passes t v on lines_passes.0 lines_passes.1 lines_passes.2

  pub lines_few : requests_left v ≤ requests_left t
  lines_few = passes_few t v on lines_passes.0 lines_passes.1

  pub lines_on : length (lines_from v.universe.now v.at) < length (lines_from t.universe.now t.at)
  lines_on = rw on.universe (omega (arith, ap length q.whole, length-append q.more (lines_from t.universe.now v.at)))

  pub lines_fewer : t.from < length t.universe.now.targets → requests_left v < requests_left t
  unfolding requests_left
  lines_fewer lt =
      let cs = between_cells t.index.now policy t.universe.now t.at v.at t.from q in
      let some = some_between t.index.now policy t.universe.now t.at v.at t.from q lt in
      rw (on.universe, none) (omega (arith, some, ap length (between_whole t.index.now policy t.universe.now t.at v.at t.from q), length-append cs (cells_left t.universe.now v.at 0)))

-- ---- with every granting binding

module _ (bs : List Binding) where
  pairs_from_append : (b : ℕ) (cs ds : List Cell) → 0 < length cs → pairs_from bs b (cs ++ ds) ≡ pairs_from bs b cs ++ pairs_from bs 0 ds
  pairs_from_append b [] ds some = absurd (omega (arith, some))
  pairs_from_append b (c ∷ cs) ds some =
      ap (λ (l : List RowView). map (pair_of c) (drop b bs) ++ l) (pairs_append bs cs ds ∙ ap (λ (l : List RowView). pairs_of bs cs ++ l) (sym (pairs_zero bs ds)))
      ∙ sym (append_assoc (map (pair_of c) (drop b bs)) (pairs_of bs cs) (pairs_from bs 0 ds))

  in_pairs_from : (b : ℕ) (cs : List Cell) (r : RowView) → Contains (pairs_from bs b cs) r → Contains cs r.cell × Contains bs r.binding
  in_pairs_from b [] r w = absurd (omega (arith, w.1))
  in_pairs_from b (c ∷ cs) r w = elim (Contains-append_cases (map (pair_of c) (drop b bs)) (pairs_of bs cs) r w) [
    | inl v ↦
        let f = first_in bs c b r v in
        subst (λ (x : RowView). Contains (c ∷ cs) x.cell × Contains bs x.binding) f.4 (here c cs, (f.0, slice_get_within bs f.0 f.1 f.3, get_or_from_slice_get bs f.0 f.1 f.1 f.3))
    | inr v ↦
        let o = others_in bs cs r v in
        subst (λ (x : RowView). Contains (c ∷ cs) x.cell × Contains bs x.binding) o.4 (there c cs o.0 o.2, o.3)
  ]

  some_pairs_from : (b : ℕ) (cs : List Cell) → 0 < length cs → b < length bs → 0 < length (pairs_from bs b cs)
  some_pairs_from b [] some lt = absurd (omega (arith, some))
  some_pairs_from b (c ∷ cs) some lt =
      let x = read_some bs b lt in
      rw (drop_at bs b x.0 x.1) (omega arith)

module _ (t v : EveryRows) (policy : IsPolicy t.rows.index.now) (on : GoesOn t.rows v.rows) (q : PassesLines t.rows.index.now t.rows.universe.now t.rows.at t.rows.from v.rows.at) (none : (v.rows.from ≡ 0) × (v.binding ≡ 0)) (within : t.rows.from < length t.rows.universe.now.targets) where
  abbrev p : PolicyView
  p = t.rows.index.now

  abbrev bs : List Binding
  bs = p.held.bindings

  abbrev passed_cells : List Cell
  passed_cells = between_cells p policy t.rows.universe.now t.rows.at v.rows.at t.rows.from q

  some_cells : 0 < length passed_cells
  some_cells = some_between p policy t.rows.universe.now t.rows.at v.rows.at t.rows.from q within

  abbrev pairs : List RowView
  pairs = pairs_from bs t.binding passed_cells

  abbrev rest : List RowView
  rest = pairs_from bs 0 (cells_left t.rows.universe.now v.rows.at 0)

  pairs_whole : pairs_from bs t.binding (cells_left t.rows.universe.now t.rows.at t.rows.from) ≡ pairs ++ rest
  pairs_whole = ap (pairs_from bs t.binding) (between_whole p policy t.rows.universe.now t.rows.at v.rows.at t.rows.from q) ∙ pairs_from_append bs t.binding passed_cells (cells_left t.rows.universe.now v.rows.at 0) some_cells

  those : (rs : List RowView) × AreThose (IsGranted p.held) pairs rs
  those = some_those (IsGranted p.held) pairs (λ r w. decided_pair p policy r (in_pairs_from bs t.binding passed_cells r w).1)

  those_repeat : (r : RowView) → Contains those.0 r → is_repeat r ≡ true
  those_repeat r w =
      let s = those_sound (IsGranted p.held) pairs those.0 those.1 r w in
      let c = in_pairs_from bs t.binding passed_cells r s.0 in
      between_repeats p policy t.rows.universe.now t.rows.at v.rows.at t.rows.from q r.cell r.binding c.0 c.1 s.1

  pub every_lines_some : PassesSome (AreEveryLeft t) (AreEveryLeft v)
  unfolding AreEveryLeft
  every_lines_some = rw (on.index, on.universe, none.0, none.1) (record {
    passed = those.0;
    repeats = λ i d lt. those_repeat (get_or those.0 i d) (Contains-get_or those.0 i d lt);
    left = λ all. (
      λ a.
          let s = those_split (IsGranted p.held) pairs rest all (subst (λ (l : List RowView). AreThose (IsGranted p.held) l all) pairs_whole a) in
          (s.1, s.4 ∙ ap (λ (l : List RowView). l ++ s.1) (those_one (IsGranted p.held) pairs s.0 those.0 s.2 those.1), s.3),
      λ w. subst (λ (l : List RowView). AreThose (IsGranted p.held) l all) (sym pairs_whole) (subst (AreThose (IsGranted p.held) (pairs ++ rest)) (sym w.1) (those_append (IsGranted p.held) pairs rest those.0 w.0 those.1 w.2)),
    );
  })

  pub every_lines_fewer : t.binding < length bs → pairs_left v < pairs_left t
  unfolding pairs_left
  every_lines_fewer lt =
      let some = some_pairs_from bs t.binding passed_cells some_cells lt in
      rw (on.index, on.universe, none.0, none.1) (omega (arith, some, ap length pairs_whole, length-append pairs rest))
