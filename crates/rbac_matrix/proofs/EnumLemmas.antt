-- how an enumeration goes from line to line
use Rattle.std.proofs.Common.{◌≡◌, ℕ, zero, suc, ◌+◌, ◌<◌, ◌≤◌, List, [], ◌∷◌, ◌++◌, length, get_or, min, sum_by, refl, ap, ap₂, ◌∙◌, sym, arith, subst, inl, inr, append_assoc}
use Rattle.std.specs.List.{flat_map}
use Rattle.std.proofs.lemmas.Bool.{cases_lt}
use Rattle.std.proofs.lemmas.List.{get_or_default, get_or_past}
use Rattle.std.proofs.lemmas.List.Sums.{sum_by-cons}
use Rattle.std.proofs.lemmas.Grind.{flat_map-append}
use Rattle.rbac_model.specs.Policies.{Held, PolicyView, IsPolicy}
use Rattle.rbac_model.specs.Universes.{UniverseView, IsUniverse, Cell, RowView}
use Rattle.rbac_matrix.specs.Cells.{AreRowsOf}
use Rattle.rbac_matrix.specs.Lines.{LineView, cells_of_lines, line_cells_from, lines_from}
use Rattle.rbac_reaches.specs.Reaches.{AreReaches}
use Rattle.rbac_matrix.specs.Metering.{IsMetered, IsReady, Skips}
use Rattle.rbac_matrix.specs.Passing.{EndsAll, EndsLine, FindsCell, HasNoHit, Leads, Passes, cells_left, row_on}
use Rattle.rbac_matrix.specs.declared.line.Place.{Place}
use Rattle.rbac_matrix.specs.declared.seat.Seat.{Seat}
use Rattle.rbac_matrix.specs.Seats.{AreEmpty, AreReal, AreSeated, Costs, empty_seat, filled, past_all, reach_at, seat_at, stand_of}
use Rattle.rbac_matrix.proofs.IdleLemmas.{rowless_both}
use Rattle.rbac_matrix.proofs.RowLemmas.{rows_append}
use Rattle.rbac_matrix.proofs.HitLemmas.{next_before, next_row, none_passes, rowless}
use Rattle.rbac_matrix.proofs.PassLemmas.{no_head, passes_more, passes_none, passes_then}
use Rattle.rbac_matrix.proofs.LineLemmas.{ends_line}
use Rattle.rbac_matrix.proofs.LoopLemmas.{cursor_within}
use Rattle.rbac_matrix.proofs.LinesLemmas.{onward_whole}
use Rattle.rbac_matrix.proofs.TouchLemmas.{metered_end, metered_on, metered_skip}

-- ---- lines without a filled seat

none_of : (f : Seat → ℕ) (seats : List Seat) (k : ℕ) → sum_by f seats ≡ 0 → k < length seats → f (seat_at seats k) ≡ 0
none_of f [] k e lt = absurd (omega arith)
none_of f (s ∷ seats) zero e lt = let sum = sum_by-cons f s seats in omega arith
none_of f (s ∷ seats) (suc k) e lt = let sum = sum_by-cons f s seats in none_of f seats k (omega arith) (omega arith)

seat_is : (s : Seat) → s.position ≡ 0 → s.place ≡ past_all → s ≡ empty_seat
seat_is s e f = ap₂ (λ (a b : ℕ). record { position = a; place = b }) e f

pub unfilled : (p : PolicyView) (l : LineView) (rs : List (List ℕ)) (from upto : ℕ) (seats : List Seat) → AreReal rs → AreSeated p l rs from upto seats → filled seats ≡ 0 → AreEmpty p seats
unfolding filled
unfilled p l rs from upto seats real seated none = record {
  count = seated.count;
  each = λ k lt. elim (seated.each k lt) [
    | inl s ↦
        let nought = none_of (λ (x : Seat). min 1 (x.position + stand_of x)) seats k none lt in
        let at : (seat_at seats k).position ≡ 0 = omega arith in
        let place : (seat_at seats k).place ≡ get_or (reach_at rs k) 0 past_all = rw at at s.1.place in
        let over : past_all ≤ (seat_at seats k).place = omega arith in
        seat_is (seat_at seats k) at (elim (cases_lt 0 (length (reach_at rs k))) [
          | inl some ↦ absurd (let first = get_or_default (reach_at rs k) 0 past_all 0 some in omega (arith, real k 0 some))
          | inr none_left ↦ place ∙ get_or_past (reach_at rs k) 0 past_all none_left
        ])
    | inr e ↦ e.1
  ];
}

-- ---- lines without rows

module _ (h : Held) (u : UniverseView) where
  pub skips_same : (at to : Place) → lines_from u to ≡ lines_from u at → Skips h u at to
  skips_same at to e = record { between = []; whole = sym e; none = refl }

  pub skips_line : (at to : Place) (l : LineView) → lines_from u at ≡ l ∷ lines_from u to → AreRowsOf h (line_cells_from u 0 l) [] → Skips h u at to
  skips_line at to l e none = record {
    between = l ∷ [];
    whole = e;
    none = rows_append h (line_cells_from u 0 l) [] [] [] none refl;
  }

  pub skips_then : (a b c : Place) → Skips h u a b → Skips h u b c → Skips h u a c
  skips_then a b c p q = record {
    between = p.between ++ q.between;
    whole = p.whole ∙ ap (λ (ls : List LineView). p.between ++ ls) q.whole ∙ sym (append_assoc p.between q.between (lines_from u c));
    none = rowless_both h u p.between q.between p.none q.none;
  }

  pub whole_cells : (ls : List LineView) → cells_of_lines u 0 ls ≡ flat_map (line_cells_from u 0) ls
  whole_cells ls = onward_whole (line_cells_from u 0) ls

  pub skips_pass : (at to : Place) → Skips h u at to → Passes h (cells_left u at 0) (cells_left u to 0) []
  skips_pass at to s = record {
    between = flat_map (line_cells_from u 0) s.between;
    whole = whole_cells (lines_from u at) ∙ ap (flat_map (line_cells_from u 0)) s.whole ∙ flat_map-append (line_cells_from u 0) s.between (lines_from u to) ∙ ap (λ (cs : List Cell). flat_map (line_cells_from u 0) s.between ++ cs) (sym (whole_cells (lines_from u to)));
    are = s.none;
  }

  pub cells_at : (at : Place) (from : ℕ) (l : LineView) (ls : List LineView) → lines_from u at ≡ l ∷ ls → cells_left u at from ≡ line_cells_from u from l ++ flat_map (line_cells_from u 0) ls
  cells_at at from l ls e = ap (cells_of_lines u from) e

  -- the rows of a part of a line are the next rows that are left
  pub line_passes : (at : Place) (from to : ℕ) (l : LineView) (ls : List LineView) (rows : List RowView) → lines_from u at ≡ l ∷ ls → Passes h (line_cells_from u from l) (line_cells_from u to l) rows → Passes h (cells_left u at from) (cells_left u at to) rows
  line_passes at from to l ls rows e p =
      let all = passes_more h (line_cells_from u from l) (line_cells_from u to l) (flat_map (line_cells_from u 0) ls) rows p in
      subst (λ (cs : List Cell). Passes h cs (cells_left u at to) rows) (sym (cells_at at from l ls e))
      (subst (λ (cs : List Cell). Passes h (line_cells_from u from l ++ flat_map (line_cells_from u 0) ls) cs rows) (sym (cells_at at to l ls e)) all)

  pub line_ends : (at next : Place) (from : ℕ) (l : LineView) → lines_from u at ≡ l ∷ lines_from u next → Passes h (line_cells_from u from l) [] [] → Passes h (cells_left u at from) (cells_left u next 0) []
  line_ends at next from l e p =
      let all = passes_more h (line_cells_from u from l) [] (flat_map (line_cells_from u 0) (lines_from u next)) [] p in
      subst (λ (cs : List Cell). Passes h cs (cells_left u next 0) []) (sym (cells_at at from l (lines_from u next) e))
      (subst (λ (cs : List Cell). Passes h (line_cells_from u from l ++ flat_map (line_cells_from u 0) (lines_from u next)) cs []) (sym (whole_cells (lines_from u next))) all)

module _ (p : PolicyView) (u : UniverseView) (rs : List (List ℕ)) where
  -- a line whose cursors have no entries has no row
  pub idle_line : (l : LineView) (seats : List Seat) → IsPolicy p → IsUniverse u → AreReaches p u rs → length u.targets ≤ 1000000 → AreReal rs → AreSeated p l rs 0 0 seats → filled seats ≡ 0 → AreRowsOf p.held (line_cells_from u 0 l) []
  idle_line l seats policy is reaches few real seated none =
      let empty = unfilled p l rs 0 0 seats real seated none in
      let ends : EndsLine p u rs l 0 0 seats = ends_line p u rs l policy is reaches 0 0 seats seated few (λ k c. rw (empty.each k (omega (arith, seated.count, cursor_within p l k c))) (omega arith)) in
      rowless p u l policy ends.none

  -- if no lines are left, the seats are ready for each target and number
  pub ready_past : (at : Place) (from upto : ℕ) (seats : List Seat) → IsReady p u rs at from upto seats → lines_from u at ≡ [] → (left above : ℕ) → IsReady p u rs at left above seats
  ready_past at from upto seats h e left above = record { settled = h.settled; count = h.count; seated = λ l ls line. absurd (no_head l ls (sym line ∙ e)); ended = h.ended }

  -- if a line has no further hit, the search goes on after the lines that are skipped
  pub leads_on : (policy : IsPolicy p) (start : Place) (first last : ℕ) (at next to : Place) (from upto : ℕ) (l : LineView) → Leads p u start first last at from upto → lines_from u at ≡ l ∷ lines_from u next → HasNoHit p u l from upto → Skips p.held u next to → Leads p u start first last to 0 0
  leads_on policy start first last at next to from upto l (inl same) e none skips = inr (
    refl,
    refl,
    record {
      line = l;
      next = next;
      line_at = ap (lines_from u) (sym same.0) ∙ e;
      none = rw (same.1, same.2) at none;
      skips = skips;
    },
  )
  leads_on policy start first last at next to from upto l (inr later) e none skips = inr (
    refl,
    refl,
    record {
      line = later.2.line;
      next = later.2.next;
      line_at = later.2.line_at;
      none = later.2.none;
      skips = skips_then p.held u later.2.next at to later.2.skips (skips_then p.held u at next to (skips_line p.held u at next l e (rowless p u l policy (rw (later.0, later.1) at none))) skips);
    },
  )

  -- from a place to the beginning of the search on a line, there is no row
  pub leads_pass : (policy : IsPolicy p) (at : Place) (from : ℕ) (to : Place) (begin low : ℕ) → Leads p u at from 0 to begin low → (low ≡ 0) × Passes p.held (cells_left u at from) (cells_left u to begin) []
  leads_pass policy at from to begin low (inl same) =
      (same.2, rw (same.0, same.1) (passes_none p.held (cells_left u at from)))
  leads_pass policy at from to begin low (inr later) = (
    later.1,
    rw later.0 (passes_then p.held (cells_left u at from) (cells_left u later.2.next 0) (cells_left u to 0) [] []
        (line_ends p.held u at later.2.next from later.2.line later.2.line_at (none_passes p u later.2.line policy from later.2.none))
        (skips_pass p.held u later.2.next to later.2.skips)),
  )

  module _ (policy : IsPolicy p) (at : Place) (from : ℕ) (to : Place) (seats : List Seat) (place number : ℕ) (f : FindsCell p u rs at from 0 to seats place number) where
    -- there is no row before the next hit
    pub comes_passes : Passes p.held (cells_left u at from) (cells_left u to place) []
    comes_passes =
        let way = leads_pass policy at from to f.begin f.low f.leads in
        passes_then p.held (cells_left u at from) (cells_left u to f.begin) (cells_left u to place) [] [] way.1
        (line_passes p.held u to f.begin place f.line f.others [] f.line_at (next_before p u f.line policy f.begin f.low place number f.found.next way.0))

    pub here_passes : Passes p.held (cells_left u to place) (cells_left u to (place + 1)) (row_on p u f.line place number f.found.next.hit ∷ [])
    here_passes =
        let way = leads_pass policy at from to f.begin f.low f.leads in
        line_passes p.held u to place (place + 1) f.line f.others _ f.line_at (next_row p u f.line policy f.begin f.low place number f.found.next way.0)

    -- the next hit is the next row that is left
    pub cell_passes : Passes p.held (cells_left u at from) (cells_left u to (place + 1)) (row_on p u f.line place number f.found.next.hit ∷ [])
    cell_passes = passes_then p.held (cells_left u at from) (cells_left u to place) (cells_left u to (place + 1)) [] _ comes_passes here_passes

  -- if there is no further hit, no row is left
  pub all_passes : (policy : IsPolicy p) (at : Place) (from : ℕ) (to : Place) (seats : List Seat) → EndsAll p u rs at from 0 to seats → Passes p.held (cells_left u at from) [] []
  all_passes policy at from to seats e =
      let way = leads_pass policy at from to e.begin e.low e.leads in
      subst (λ (cs : List Cell). Passes p.held (cells_left u at from) cs []) (ap (cells_of_lines u e.begin) e.ended) way.1

  -- the meter's bounds still hold after a line ends and lines are skipped
  pub metered_over : (start : Place) (sought given : ℕ) (at next to : Place) (l : LineView) (from upto : ℕ) (old ended empty seats : List Seat) (m m' m'' : ℕ) → IsPolicy p → IsUniverse u → AreReaches p u rs → lines_from u at ≡ l ∷ lines_from u next → EndsLine p u rs l from upto ended → AreEmpty p empty → Costs 0 0 old ended m m' → Costs 0 0 empty seats m' m'' → Skips p.held u next to → IsMetered p u start sought at old given m → IsMetered p u start sought to seats given m''
  metered_over start sought given at next to l from upto old ended empty seats m m' m'' policy is reaches e ends none costs more skips h =
      let read : IsMetered p u start sought at ended given m' = metered_on p u start sought at old ended given m m' h costs in
      let over : IsMetered p u start sought next empty given m' = metered_end p u start sought rs at next l ends.reached ends.low ended empty given m' policy is reaches e ends.seated none read in
      let seated : IsMetered p u start sought next seats given m'' = metered_on p u start sought next empty seats given m' m'' over more in
      metered_skip p u start sought next to seats given m'' skips.between skips.whole seated
