-- rows that are passed: all of them are repeats
use Rattle.std.proofs.Common.{◌≡◌, ℕ, ◌+◌, ◌<◌, ◌≤◌, List, [], ◌∷◌, ◌++◌, Bool, true, false, All, length, length-append, refl, ap, ◌∙◌, sym, arith, append_assoc, subst}
use Rattle.std.specs.Prelude.{Option, Some, not, slice_get}
use Rattle.std.proofs.lemmas.List.Elements.{All-append, filter-append}
use Rattle.std.proofs.lemmas.Option.{slice_get_within}
use Rattle.rbac_model.specs.Policies.{Held, IsPolicy, GrantView}
use Rattle.rbac_model.specs.Universes.{IsUniverse, Cell, RowView}
use Rattle.rbac_matrix.specs.Cells.{AreRowsOf}
use Rattle.rbac_matrix.specs.Enumeration.{AreLeft, GoesOn, IsUnderWay, requests_left}
use Rattle.rbac_matrix.specs.Lines.{LineView, cells_of_lines, lines_from}
use Rattle.rbac_matrix.specs.Metering.{IsReady}
use Rattle.rbac_matrix.specs.Once.{PassesRepeats, PassesSome, StaysFirst, is_repeat, repeats_at, without_repeats}
use Rattle.rbac_matrix.specs.Passing.{EndsAll, FindsCell, Passes, cells_left, row_on}
use Rattle.rbac_matrix.specs.declared.enumeration.Rows.{Rows}
use Rattle.rbac_matrix.specs.declared.line.Place.{Place}
use Rattle.rbac_matrix.proofs.BeginLemmas.{ready_line}
use Rattle.rbac_matrix.proofs.EnumLemmas.{all_passes, comes_passes, here_passes, leads_pass}
use Rattle.rbac_matrix.proofs.GoingLemmas.{fewer_left, fits_namespace}
use Rattle.rbac_matrix.proofs.HitLemmas.{from_zero, next_onward}
use Rattle.rbac_matrix.proofs.PassLemmas.{no_head, passes_left, passes_rows, same_head}
use Rattle.rbac_matrix.proofs.RowLemmas.{rows_one}
use Rattle.rbac_matrix.proofs.StartLemmas.{filter_none}
use Rattle.rbac_matrix.proofs.WalkLemmas.{not_both}

abbrev pub Lists : Type 1
Lists = List RowView → Type 0

abbrev pub AreRepeats : List RowView → Type 0
AreRepeats rows = All (λ row. is_repeat row ≡ true) rows

pub no_repeats : AreRepeats []
no_repeats i d lt = absurd (omega (arith, lt))

pub one_repeat : (row : RowView) → is_repeat row ≡ true → AreRepeats (row ∷ [])
one_repeat row e = grind (arith, e)

pub some_none : (A : Lists) → PassesSome A A
some_none A = record {
  passed = [];
  repeats = no_repeats;
  left = λ all. (λ a. (all, refl, a), λ w. subst A (sym w.1) w.2);
}

pub some_then : (A B C : Lists) → PassesSome A B → PassesSome B C → PassesSome A C
some_then A B C p q = record {
  passed = p.passed ++ q.passed;
  repeats = All-append (λ row. is_repeat row ≡ true) p.passed q.passed p.repeats q.repeats;
  left = λ all. (
    λ a.
        let v = (p.left all).0 a in
        let w = (q.left v.0).0 v.2 in
        (w.0, v.1 ∙ ap (λ (rows : List RowView). p.passed ++ rows) w.1 ∙ sym (append_assoc p.passed q.passed w.0), w.2),
    λ w. (p.left all).1 (q.passed ++ w.0, w.1 ∙ append_assoc p.passed q.passed w.0, (q.left (q.passed ++ w.0)).1 (w.0, refl, w.2)),
  );
}

-- passing repeats leaves the rows that aren't repeats
pub passes_repeats : (A B : Lists) → PassesSome A B → StaysFirst B → PassesRepeats A B
passes_repeats A B p first = record {
  some = p;
  first = first;
  once = λ all a.
      let w = (p.left all).0 a in
      let none : without_repeats p.passed ≡ [] = filter_none (λ row. not (is_repeat row)) p.passed (λ row v kept. not_both (is_repeat row) kept (subst (λ (r : RowView). is_repeat r ≡ true) v.2 (p.repeats v.0 row v.1))) in
      (w.0, w.2, ap without_repeats w.1 ∙ filter-append (λ row. not (is_repeat row)) p.passed w.0 ∙ ap (λ (rows : List RowView). rows ++ without_repeats w.0) none);
}

pub goes_none : (s : Rows) → GoesOn s s
goes_none s = record { index = refl; universe = refl; start = refl; sought = refl }

pub goes_then : (s t v : Rows) → GoesOn s t → GoesOn t v → GoesOn s v
goes_then s t v p q = record {
  index = q.index ∙ p.index;
  universe = q.universe ∙ p.universe;
  start = q.start ∙ p.start;
  sought = q.sought ∙ p.sought;
}

-- which line is known to be mixed has no influence on the rows
pub mixed_way : (s : Rows) (mixed : Option Place) (upto : ℕ) → IsUnderWay s upto → IsUnderWay (record s { mixed = mixed }) upto
mixed_way s mixed upto way = record {
  policy = way.policy;
  universe = way.universe;
  reaches = way.reaches;
  ready = way.ready;
  runs = way.runs;
  blocks = way.blocks;
  cluster_wide = way.cluster_wide;
  rows = way.rows;
  is_returned = way.is_returned;
  metered = way.metered;
}

-- ---- the rows of requests that are passed

abbrev pub cells : Rows → List Cell
cells s = cells_left s.universe.now s.at s.from

module _ (s t : Rows) (same : GoesOn s t) (rows : List RowView) (p : Passes s.index.now.held (cells s) (cells t) rows) where
  pub left_passes : AreRepeats rows → PassesSome (AreLeft s) (AreLeft t)
  unfolding AreLeft
  left_passes repeats = rw same.index (record {
    passed = rows;
    repeats = repeats;
    left = λ all. (
      λ are. let w = passes_left s.index.now.held (cells s) (cells t) rows all p are in (w.0, w.1, w.2),
      λ w. subst (AreRowsOf s.index.now.held (cells s)) (sym w.1) (passes_rows s.index.now.held (cells s) (cells t) rows w.0 p w.2),
    );
  })

  pub passes_few : requests_left t ≤ requests_left s
  unfolding requests_left
  passes_few = omega (arith, ap length p.whole, length-append p.between (cells t))

-- after a row is passed, fewer requests are left
pub passes_fewer : (s t : Rows) (row : RowView) → Passes s.index.now.held (cells s) (cells t) (row ∷ []) → requests_left t < requests_left s
unfolding requests_left
passes_fewer s t row p = fewer_left s.index.now.held (cells s) (cells t) row p

-- if the next row isn't a repeat, it stays the first row that is left
pub first_is : (h : Held) (cs ds : List Cell) (row : RowView) → Passes h cs ds (row ∷ []) → is_repeat row ≡ false → StaysFirst (AreRowsOf h cs)
first_is h cs ds row p e other others are =
    let w = passes_left h cs ds (row ∷ []) (other ∷ others) p are in
    subst (λ (r : RowView). is_repeat r ≡ false) (sym (same_head other row others w.0 w.1)) e

pub none_first : (h : Held) (cs : List Cell) → AreRowsOf h cs [] → StaysFirst (AreRowsOf h cs)
none_first h cs none other others are = absurd (no_head other others (rows_one h cs (other ∷ others) [] are none))

module _ (s t : Rows) (policy : IsPolicy s.index.now) (same : GoesOn s t) where
  -- no row is left
  module _ (e : EndsAll s.index.now s.universe.now s.reaches.now s.at s.from 0 t.at t.seats.now) where
    ended_cells : cells t ≡ []
    ended_cells = rw same.universe (ap (cells_of_lines s.universe.now t.from) e.ended)

    pub ended_passes : Passes s.index.now.held (cells s) (cells t) []
    ended_passes = subst (λ (cs : List Cell). Passes s.index.now.held (cells s) cs []) (sym ended_cells) (all_passes s.index.now s.universe.now s.reaches.now policy s.at s.from t.at t.seats.now e)

    pub ended_first : StaysFirst (AreLeft t)
    unfolding AreLeft
    ended_first = none_first t.index.now.held (cells t) (rw ended_cells refl)

  module _ (place no : ℕ) (from : t.from ≡ place) (f : FindsCell s.index.now s.universe.now s.reaches.now s.at s.from 0 t.at t.seats.now place no) where
    abbrev pub row : RowView
    row = row_on s.index.now s.universe.now f.line place no f.found.next.hit

    pub come_passes : Passes s.index.now.held (cells s) (cells t) []
    come_passes = rw (same.universe, from) (comes_passes s.index.now s.universe.now s.reaches.now policy s.at s.from t.at t.seats.now place no f)

    pub come_within : t.from < length t.universe.now.targets
    come_within = rw (from, same.universe) (slice_get_within s.universe.now.targets place f.found.next.hit.target f.found.next.hit.target_at)

    pub come_grant : no < length t.index.now.grants
    come_grant = rw same.index (slice_get_within s.index.now.grants no f.found.next.hit.grant f.found.next.hit.grant_at)

    -- the seats are ready for the row
    pub come_ready : IsReady s.index.now s.universe.now s.reaches.now t.at t.from 0 t.seats.now
    come_ready =
        let low = (leads_pass s.index.now s.universe.now s.reaches.now policy s.at s.from t.at f.begin f.low f.leads).0 in
        let onward = next_onward s.index.now s.universe.now f.line policy f.begin f.low place no f.found.next in
        rw from (ready_line s.index.now s.universe.now s.reaches.now t.at place 0 t.seats.now f.settled f.line f.others f.line_at (f.found.here 0 (omega arith) (from_zero place 0 f.begin f.low low onward)))

    module _ (v : Rows) (on : GoesOn t v) (at : v.at ≡ t.at) (next : v.from ≡ t.from + 1) where
      pub come_over : Passes t.index.now.held (cells t) (cells v) (row ∷ [])
      come_over = rw (on.universe, same.universe, same.index, at, next, from) (here_passes s.index.now s.universe.now s.reaches.now policy s.at s.from t.at t.seats.now place no f)

    -- whether the row is a repeat
    module _ (is : IsUniverse s.universe.now) (b : Bool) (told : (l : LineView) (ls : List LineView) (g : GrantView) → lines_from t.universe.now t.at ≡ l ∷ ls → slice_get t.index.now.grants no ≡ Some g → b ≡ repeats_at l.namespace g.binding.namespace) where
      pub come_repeat : is_repeat row ≡ b
      come_repeat =
          let hit = f.found.next.hit in
          let same_line : lines_from t.universe.now t.at ≡ f.line ∷ f.others = rw same.universe f.line_at in
          let same_grant : slice_get t.index.now.grants no ≡ Some hit.grant = rw same.index hit.grant_at in
          ap (λ n. repeats_at n hit.grant.binding.namespace) (fits_namespace s.universe.now is f.line place hit.target hit.target_at hit.fits) ∙ sym (told f.line f.others hit.grant same_line same_grant)

      pub come_first : b ≡ false → StaysFirst (AreLeft t)
      unfolding AreLeft
      come_first none = first_is t.index.now.held (cells t) (cells_left t.universe.now t.at (t.from + 1)) row
          (rw (same.universe, same.index, from) (here_passes s.index.now s.universe.now s.reaches.now policy s.at s.from t.at t.seats.now place no f)) (come_repeat ∙ none)
