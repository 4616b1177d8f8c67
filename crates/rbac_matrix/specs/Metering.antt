-- How many entries an enumeration has read: at least as many as rows were returned, and at most as
-- many as the cursors of its lines have, apart from the search on the first line.
use Rattle.std.specs.Prelude.{◌≡◌, ℕ, ◌+◌, ◌*◌, ◌≤◌, List, [], ◌∷◌, ◌++◌, length}
use Rattle.std.specs.List.{flat_map}
use Rattle.rbac_model.specs.Policies.{Held, PolicyView}
use Rattle.rbac_model.specs.Universes.{UniverseView, IsCursor, AreTouches}
use Rattle.rbac_model.specs.Lists.{IsCount}
use Rattle.rbac_matrix.specs.Cells.{AreRowsOf}
use Rattle.rbac_matrix.specs.Lines.{IsSettled, LineView, line_cells_from, lines_from}
use Rattle.rbac_reaches.specs.Reaches.{raised}
use Rattle.rbac_matrix.specs.Seats.{AreEmpty, AreSeated, passed, standing}
use Rattle.rbac_matrix.specs.declared.line.Place.{Place}
use Rattle.rbac_matrix.specs.declared.seat.Seat.{Seat}

-- how many touches these lines have: pairs of a cursor and a target that its rule matches, verbs
-- aside
abbrev pub AreTouched : PolicyView → UniverseView → List LineView → ℕ → Type 0
AreTouched p u [] n = n ≡ 0
AreTouched p u (l ∷ ls) n = (here : ℕ) × (later : ℕ) × AreTouches p u l.who l.namespace l.verb here
    × AreTouched p u ls later × (n ≡ here + later)

-- no line from `at` up to `to` has a row
pub record Skips (h : Held) (u : UniverseView) (at to : Place) : Type 0 where
  pub between : List LineView
  pub whole : lines_from u at ≡ between ++ lines_from u to
  pub none : AreRowsOf h (flat_map (line_cells_from u 0) between) []

-- the seats are those of the line at the place; past the last line they are empty
pub record IsReady (p : PolicyView) (u : UniverseView) (rs : List (List ℕ)) (at : Place)
    (from upto : ℕ) (seats : List Seat) : Type 0 where
  pub settled : IsSettled u at
  pub count : length seats ≡ length p.grants
  pub seated : (l : LineView) (ls : List LineView) → lines_from u at ≡ l ∷ ls
      → AreSeated p l rs from upto seats
  pub ended : lines_from u at ≡ [] → AreEmpty p seats

-- how many entries the meter counts, from the line at `start` on: at least one for each row that
-- was given and each seat at an entry; at most 20 for each of the `sought` cursors, one for each
-- touch of the lines left behind, and one for each entry that the seats have passed or are at
pub record IsMetered (p : PolicyView) (u : UniverseView) (start : Place) (sought : ℕ) (at : Place)
    (seats : List Seat) (given count : ℕ) : Type 0 where
  pub total : ℕ
  pub meter : count ≡ raised 0 total
  pub low : given + standing seats ≤ total
  pub behind : List LineView
  pub whole : lines_from u start ≡ behind ++ lines_from u at
  pub high : (n : ℕ) → AreTouched p u behind n
      → total ≤ 20 * sought + n + passed seats + standing seats

-- `sought` is at most the number of cursors that the line at the place has
abbrev pub AreSought : PolicyView → UniverseView → Place → ℕ → Type 0
AreSought p u at sought = (l : LineView) (ls : List LineView) (n : ℕ) → lines_from u at ≡ l ∷ ls
    → IsCount (IsCursor l.who l.namespace l.verb) p.grants n → sought ≤ n
