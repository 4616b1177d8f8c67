-- an enumeration from one call to the next
use Rattle.std.proofs.Common.{◌≡◌, ℕ, ◌+◌, ◌*◌, ◌<◌, ◌≤◌, List, [], ◌∷◌, ◌++◌, Bool, true, false, Contains, get_or, map, length, refl, ap, ap₂, ◌∙◌, sym, arith, subst, inl, inr, length-append}
use Rattle.std.specs.Prelude.{Some, slice_get, ◌↔◌}
use Rattle.std.proofs.lemmas.List.{append_cancel_right}
use Rattle.std.proofs.lemmas.Option.{get_or_from_slice_get, slice_get_within}
use Rattle.rbac_terms.specs.Targets.{What, Resource, Url}
use Rattle.rbac_terms.specs.Keys.{key_of, namespace_at}
use Rattle.rbac_model.specs.Policies.{Held, PolicyView, IsPolicy}
use Rattle.rbac_model.specs.Universes.{UniverseView, IsUniverse, Listed, Cell, RowView, Fits, cell_key}
use Rattle.rbac_matrix.specs.Cells.{AreRowsOf}
use Rattle.rbac_matrix.specs.Lines.{LineView, cells_of_lines, lines_from}
use Rattle.rbac_reaches.specs.Reaches.{AreReaches}
use Rattle.rbac_matrix.specs.Metering.{AreTouched, IsMetered, IsReady}
use Rattle.rbac_matrix.specs.Cursors.{IsCursorAt}
use Rattle.rbac_matrix.specs.Passing.{FindsCell, Passes, cell_of, cells_left}
use Rattle.rbac_matrix.specs.Seats.{AreSeated, Costs, seat_at}
use Rattle.rbac_matrix.specs.Enumeration.{EntersLast}
use Rattle.rbac_matrix.specs.declared.line.Place.{Place}
use Rattle.rbac_matrix.specs.declared.seat.Seat.{Seat}
use Rattle.rbac_matrix.proofs.SeatLemmas.{empty_passed, empty_standing}
use Rattle.rbac_matrix.proofs.PassLemmas.{no_head, passes_left, passes_rows}
use Rattle.rbac_matrix.proofs.BeginLemmas.{ready_line}
use Rattle.rbac_matrix.proofs.TouchLemmas.{metered_more, reads_few, touched_split}
use Rattle.rbac_matrix.proofs.LineLemmas.{all_past, mapped_at}

module _ (h : Held) (cs ds : List Cell) (row : RowView) (p : Passes h cs ds (row ∷ [])) where
  -- the row is the first of the rows that are left
  pub row_given : (all : List RowView) → AreRowsOf h cs all ↔ ((others : List RowView) × (all ≡ row ∷ others) × AreRowsOf h ds others)
  row_given all = (
    λ are. let r = passes_left h cs ds (row ∷ []) all p are in (r.0, r.1, r.2),
    λ w. subst (λ (rows : List RowView). AreRowsOf h cs rows) (sym w.1) (passes_rows h cs ds (row ∷ []) w.0 p w.2),
  )

  some_between : (between : List Cell) → AreRowsOf h between (row ∷ []) → 0 < length between
  some_between [] are = absurd (no_head row [] are)
  some_between (c ∷ cells) are = omega arith

  pub fewer_left : length ds < length cs
  fewer_left =
      let some = some_between p.between p.are in
      omega (arith, ap length p.whole, length-append p.between ds)

pub none_given : (h : Held) (cs : List Cell) → Passes h cs [] [] → AreRowsOf h cs []
none_given h cs p = passes_rows h cs [] [] [] p refl

own_namespace : (u : UniverseView) → IsUniverse u → (l : LineView) (t : What) (b : Bool) → Contains u.targets (t, b) → Fits (cell_of l (t, b)) → namespace_at l.namespace t ≡ l.namespace
own_namespace u is l (Resource group text name) b w fits = refl
own_namespace u is l (Url path) true w fits = absurd (is.urls path w)
own_namespace u is l (Url path) false w (inl e) = cc
own_namespace u is l (Url path) false w (inr e) = sym e

-- the key of a request that fits has the request's namespace
pub fits_namespace : (u : UniverseView) → IsUniverse u → (l : LineView) (place : ℕ) (t : Listed) → slice_get u.targets place ≡ Some t → Fits (cell_of l t) → namespace_at l.namespace t.0 ≡ l.namespace
fits_namespace u is l place t at fits = own_namespace u is l t.0 t.1 (place, slice_get_within u.targets place t at, get_or_from_slice_get u.targets place t t at) fits

-- ---- the seats after a row

module _ (p : PolicyView) (u : UniverseView) (rs : List (List ℕ)) (at : Place) (from upto : ℕ) (to : Place) (old new : List Seat) (place number end : ℕ) (f : FindsCell p u rs at from upto to old place number) where
  -- the seats are those of the row's line, past the row's place for the grants below `end`
  pub ready_after : AreSeated p f.line rs place end new → IsReady p u rs to place end new
  ready_after seated = ready_line p u rs to place end new f.settled f.line f.others f.line_at seated

  -- at least one entry was read for the row
  pub metered_after : (start : Place) (sought given m m' : ℕ) → IsMetered p u start sought to old given m → number < end
      → ((k : ℕ) → IsCursorAt p f.line k → k < end → (seat_at old k).place ≡ place → Costs 0 1 old new m m') → IsMetered p u start sought to new (given + 1) m'
  metered_after start sought given m m' h lt gains =
      metered_more p u start sought to old new given 1 m m' h (gains number f.found.cursor lt f.found.stands)

-- a bound for the cursors of a line holds for those of an equal line
pub gains_on : (p : PolicyView) (l m : LineView) (place end : ℕ) (old new : List Seat) (before after : ℕ) → l ≡ m
    → ((k : ℕ) → IsCursorAt p l k → k < end → (seat_at old k).place ≡ place → Costs 0 1 old new before after)
    → (k : ℕ) → IsCursorAt p m k → k < end → (seat_at old k).place ≡ place → Costs 0 1 old new before after
gains_on p l m place end old new before after e gains k c = gains k (subst (λ (x : LineView). IsCursorAt p x k) (sym e) c)

-- if the grants below `end` are past a place, and these are all grants, the seats are those for the
-- next place
pub ready_next : (p : PolicyView) (u : UniverseView) (rs : List (List ℕ)) (at : Place) (place end : ℕ) (seats : List Seat) → end ≡ length p.grants → IsReady p u rs at place end seats → IsReady p u rs at (place + 1) 0 seats
ready_next p u rs at place end seats all h = record {
  settled = h.settled;
  count = h.count;
  seated = λ l ls e. all_past p l rs place end seats all (h.seated l ls e);
  ended = h.ended;
}

-- ---- the meter

module _ (p : PolicyView) (u : UniverseView) (rs : List (List ℕ)) (start : Place) (sought : ℕ) (at : Place) (from upto : ℕ) (seats : List Seat) (given count : ℕ) (policy : IsPolicy p) (is : IsUniverse u) (reaches : AreReaches p u rs) (ready : IsReady p u rs at from upto seats) (h : IsMetered p u start sought at seats given count) where
  entered_few : (ls behind entered : List LineView) (n : ℕ) → lines_from u at ≡ ls → lines_from u start ≡ behind ++ ls → EntersLast ls behind entered → AreTouched p u entered n → count ≤ 20 * sought + n
  entered_few [] behind entered n e whole last touched =
      let same : h.behind ≡ behind = append_cancel_right h.behind behind [] (sym (h.whole ∙ ap (λ (x : List LineView). h.behind ++ x) e) ∙ whole) in
      let empty = ready.ended e in
      let a = empty_passed p seats empty in
      let b = empty_standing p seats empty in
      let all : AreTouched p u h.behind n = subst (λ (x : List LineView). AreTouched p u x n) (last ∙ sym same) touched in
      omega (arith, h.high n all, h.meter)
  entered_few (l ∷ ls) behind entered n e whole last touched =
      let same : h.behind ≡ behind = append_cancel_right h.behind behind (l ∷ ls) (sym (h.whole ∙ ap (λ (x : List LineView). h.behind ++ x) e) ∙ whole) in
      let all : AreTouched p u (h.behind ++ l ∷ []) n = subst (λ (x : List LineView). AreTouched p u x n) (last ∙ ap (λ (x : List LineView). x ++ l ∷ []) (sym same)) touched in
      let split = touched_split p u h.behind (l ∷ []) n all in
      let few = reads_few p u rs l policy is reaches from upto seats split.3.0 (ready.seated l ls e) split.3.2 in
      omega (arith, h.high split.0 split.2, split.4, split.3.4, h.meter)

  pub meter_few : (behind entered : List LineView) (n : ℕ) → lines_from u start ≡ behind ++ lines_from u at → EntersLast (lines_from u at) behind entered → AreTouched p u entered n → count ≤ 20 * sought + n
  meter_few behind entered n whole last touched = entered_few (lines_from u at) behind entered n refl whole last touched

-- ---- what a row shows

pub ended_left : (h : Held) (u : UniverseView) (at : Place) (from : ℕ) → lines_from u at ≡ [] → AreRowsOf h (cells_left u at from) []
ended_left h u at from e = subst (λ (ls : List LineView). AreRowsOf h (cells_of_lines u from ls) []) (sym e) refl

pub target_is : (ts : List Listed) (xs : List What) (place : ℕ) (x : What) (t : Listed) → xs ≡ map (λ (y : Listed). y.0) ts → x ≡ get_or xs place x → slice_get ts place ≡ Some t → x ≡ t.0
target_is ts xs place x t e is at =
    is ∙ ap (λ (l : List What). get_or l place x) e ∙ get_or_from_slice_get (map (λ (y : Listed). y.0) ts) place t.0 x (mapped_at ts place t at)

pub own_row : (l m : LineView) (x : What) (t : Listed) → m ≡ l → x ≡ t.0 → namespace_at l.namespace t.0 ≡ l.namespace → namespace_at m.namespace x ≡ m.namespace
own_row l m x t e f h = subst (λ (y : What). namespace_at m.namespace y ≡ m.namespace) (sym f) (subst (λ (n : LineView). namespace_at n.namespace t.0 ≡ n.namespace) (sym e) h)

pub key_is : (l m : LineView) (x : What) (t : Listed) → m ≡ l → x ≡ t.0 → key_of m.who m.namespace m.verb x ≡ cell_key (cell_of l t)
key_is l m x t e f = ap₂ (λ (n : LineView) (y : What). key_of n.who n.namespace n.verb y) e f
