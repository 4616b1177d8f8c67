-- the rows of a part of a line where all rows are repeats
use Rattle.std.proofs.Common.{◌≡◌, ℕ, zero, suc, ◌+◌, ◌-◌, ◌<◌, ◌≤◌, List, [], ◌∷◌, ◌++◌, true, Contains, get_or, length, length-append, ap, sym, arith, subst, inl, inr}
use Rattle.std.specs.List.{flat_map}
use Rattle.std.proofs.lemmas.List.Elements.{All-append, Contains-get_or}
use Rattle.rbac_terms.proofs.Reading.{read_some}
use Rattle.rbac_model.specs.Policies.{PolicyView, IsPolicy}
use Rattle.rbac_model.specs.Universes.{UniverseView, Cell, RowView}
use Rattle.rbac_universe.proofs.Flattened.{in_cons}
use Rattle.rbac_matrix.specs.RepeatedLines.{HasRepeatsAt, HasRepeatsFrom}
use Rattle.rbac_matrix.specs.Enumeration.{AreLeft, GoesOn, requests_left}
use Rattle.rbac_matrix.specs.Lines.{LineView, line_cells_from, lines_from}
use Rattle.rbac_matrix.specs.Once.{PassesSome, is_repeat}
use Rattle.rbac_matrix.specs.Pairs.{IsGranted, pair_of}
use Rattle.rbac_matrix.specs.Passing.{Passes, cell_of, cells_left}
use Rattle.rbac_matrix.specs.declared.enumeration.Rows.{Rows}
use Rattle.rbac_matrix.proofs.EnumLemmas.{cells_at, line_passes}
use Rattle.rbac_matrix.proofs.OnceLemmas.{AreRepeats, cells, left_passes, no_repeats}
use Rattle.rbac_matrix.proofs.PassLemmas.{line_step, passes_none, passes_then}
use Rattle.rbac_matrix.proofs.RowLemmas.{rows_sound}
use Rattle.rbac_matrix.proofs.SomeMatrix.{some_rows}

module _ (p : PolicyView) (policy : IsPolicy p) (u : UniverseView) (l : LineView) where
  -- the rows for the targets from one place up to another are passed, with `n` requests; all are
  -- repeats
  pub record PassesTo (from to n : ℕ) : Type 0 where
    pub rows : List RowView
    pub passes : Passes p.held (line_cells_from u from l) (line_cells_from u to l) rows
    pub repeats : AreRepeats rows
    pub count : length (line_cells_from u to l) + n ≡ length (line_cells_from u from l)

  -- one request is passed
  over_one : (from : ℕ) → from < length u.targets → HasRepeatsAt p u l from → PassesTo from (from + 1) 1
  over_one from lt repeats =
      let t = read_some u.targets from lt in
      let c = cell_of l t.0 in
      let rows = some_rows p policy (c ∷ []) in
      let step = line_step u l from t.0 t.1 in
      let is = λ (r : RowView) (w : Contains rows.0 r).
      let s = rows_sound p.held (c ∷ []) rows.0 rows.1 r w in
      let first = s.1.1 in
      let same : r.cell ≡ c = elim (in_cons c [] r.cell s.0) [ inl e ↦ sym e | inr none ↦ absurd (omega (arith, none.1)) ] in
      let granted : IsGranted p.held (pair_of r.cell r.binding) = (s.1.0, first.1.holds) in
      let it : is_repeat (pair_of c r.binding) ≡ true = repeats first.0 t.0 r.binding t.1 first.1.here (subst (λ (d : Cell). IsGranted p.held (pair_of d r.binding)) same granted) in
      subst (λ (d : Cell). is_repeat (pair_of d r.binding) ≡ true) (sym same) it
      in
      record {
        rows = rows.0;
        passes = record { between = c ∷ []; whole = step; are = rows.1 };
        repeats = λ i d few. is (get_or rows.0 i d) (Contains-get_or rows.0 i d few);
        count = omega (arith, ap length step);
      }

  -- `n` requests are passed
  over_more : (n from to : ℕ) → from + n ≡ to → to ≤ length u.targets → HasRepeatsFrom p u l from to → PassesTo from to n
  over_more zero from to e few repeats = let same : to ≡ from = omega arith in rw same (record {
    rows = [];
    passes = passes_none p.held (line_cells_from u from l);
    repeats = no_repeats;
    count = omega arith;
  })
  over_more (suc n) from to e few repeats =
      let one = over_one from (omega arith) (repeats from (omega arith) (omega arith)) in
      let more = over_more n (from + 1) to (omega arith) few (λ q low high. repeats q (omega arith) high) in
      record {
        rows = one.rows ++ more.rows;
        passes = passes_then p.held (line_cells_from u from l) (line_cells_from u (from + 1) l) (line_cells_from u to l) one.rows more.rows one.passes more.passes;
        repeats = All-append (λ row. is_repeat row ≡ true) one.rows more.rows one.repeats more.repeats;
        count = omega (arith, one.count, more.count);
      }

module _ (t v : Rows) (policy : IsPolicy t.index.now) (on : GoesOn t v) (l : LineView) (ls : List LineView) (here : lines_from t.universe.now t.at ≡ l ∷ ls) (at : v.at ≡ t.at) (later : t.from < v.from) (few : v.from ≤ length t.universe.now.targets) (repeats : HasRepeatsFrom t.index.now t.universe.now l t.from v.from) where
  over : PassesTo t.index.now policy t.universe.now l t.from v.from (v.from - t.from)
  over = over_more t.index.now policy t.universe.now l (v.from - t.from) t.from v.from (omega arith) few repeats

  over_all : (rs : List RowView) × Passes t.index.now.held (cells_left t.universe.now t.at t.from) (cells_left t.universe.now t.at v.from) rs × AreRepeats rs
  over_all = (over.rows, line_passes t.index.now.held t.universe.now t.at t.from v.from l ls over.rows here over.passes, over.repeats)

  places_passes : (rs : List RowView) × Passes t.index.now.held (cells t) (cells v) rs × AreRepeats rs
  places_passes = rw (on.universe, at) over_all

  -- the rows for the targets up to a later place of the line are passed, and are repeats
  pub places_some : PassesSome (AreLeft t) (AreLeft v)
  places_some = left_passes t v on places_passes.0 places_passes.1 places_passes.2

  pub places_fewer : requests_left v < requests_left t
  unfolding requests_left
  places_fewer =
      let rest = flat_map (line_cells_from t.universe.now 0) ls in
      let before = ap length (cells_at t.index.now.held t.universe.now t.at t.from l ls here) in
      let after = ap length (cells_at t.index.now.held t.universe.now t.at v.from l ls here) in
      rw (on.universe, at) (omega (arith, before, after, over.count, later, length-append (line_cells_from t.universe.now t.from l) rest, length-append (line_cells_from t.universe.now v.from l) rest))
