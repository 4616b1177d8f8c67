-- An enumeration of every granting binding: the rows that are left, and what holds between two
-- calls.
use Rattle.std.specs.Prelude.{◌≡◌, ℕ, ◌+◌, ◌<◌, ◌≤◌, ◌⊎◌, ◌↔◌, List, [], ◌∷◌, ◌++◌, Option}
use Rattle.std.specs.Prelude.{MatchOption, drop, length, map}
use Rattle.std.specs.Iterator.{Count, at_most}
use Rattle.rbac_terms.specs.declared.granting.Binding.{Binding}
use Rattle.rbac_model.specs.Policies.{PolicyView, IsOfBinding}
use Rattle.rbac_model.specs.Universes.{Cell, RowView}
use Rattle.rbac_matrix.specs.Enumeration.{IsOnLine, IsUnderWay}
use Rattle.rbac_matrix.specs.Pairs.{AreThose, IsGranted, pair_of, pairs_of}
use Rattle.rbac_matrix.specs.Passing.{cells_left}
use Rattle.rbac_matrix.specs.RowTexts.{Shows}
use Rattle.rbac_matrix.specs.declared.row.Row.{Row}
use Rattle.rbac_matrix.specs.declared.every_rows.EveryRows.{EveryRows}

-- each of these requests with each binding, but the first request only with the bindings from a
-- place on
abbrev pub pairs_from : List Binding → ℕ → List Cell → List RowView
pairs_from bs place [] = []
pairs_from bs place (c ∷ cs) = map (pair_of c) (drop place bs) ++ pairs_of bs cs

-- the pairs that are left: from the enumeration's line, target and binding on
abbrev pub pairs_here : EveryRows → List RowView
pairs_here s =
    pairs_from s.rows.index.now.held.bindings s.binding
    (cells_left s.rows.universe.now s.rows.at s.rows.from)

-- these rows are left: the pairs in `pairs_here` that are granted
unfoldable pub AreEveryLeft : EveryRows → List RowView → Type 0
AreEveryLeft s rows = AreThose (IsGranted s.rows.index.now.held) (pairs_here s) rows

-- how many pairs are left; no more rows than that are left
unfoldable pub pairs_left : EveryRows → ℕ
pairs_left s = length (pairs_here s)

abbrev pub every_at_most : EveryRows → Count
every_at_most s = at_most (pairs_left s)

-- the call returned the first of the rows that were left; the other rows are left, and no line past
-- that of the returned row was entered
pub record GivesPair (s : EveryRows) (r : Row) (t : EveryRows) : Type 0 where
  pub row : RowView
  pub shows : Shows r row
  pub on : IsOnLine t.rows row.cell
  pub left : (all : List RowView) → AreEveryLeft s all
      ↔ ((others : List RowView) × (all ≡ row ∷ others) × AreEveryLeft t others)

-- the call returned the first of the rows that were left, or nothing if none was left
abbrev pub GivesEvery : EveryRows → Option Row → EveryRows → Type 0
GivesEvery s r t = MatchOption r (AreEveryLeft s [] × AreEveryLeft t []) (λ row. GivesPair s row t)

-- the grants below `upto` are those of the bindings before the place
abbrev pub AreBelow : PolicyView → ℕ → ℕ → Type 0
AreBelow p upto place = (n at : ℕ) → IsOfBinding p n at → (n < upto) ↔ (at < place)

-- `place` is the place after that of the grant's binding, whose grants end at `end`
pub record PassesBinding (p : PolicyView) (number place end : ℕ) : Type 0 where
  pub at : ℕ
  pub start : ℕ
  pub of : IsOfBinding p number at
  pub own : (n i : ℕ) → IsOfBinding p n i → ((start ≤ n) × (n < end)) ↔ (i ≡ at)
  pub ends : (n i : ℕ) → IsOfBinding p n i → (n < end) ↔ (i ≤ at)
  pub is : place ≡ at + 1

-- `place` is the place of the grant's binding, whose grants begin at `start`
pub record BeginsBinding (p : PolicyView) (number place start : ℕ) : Type 0 where
  pub end : ℕ
  pub of : IsOfBinding p number place
  pub own : (n i : ℕ) → IsOfBinding p n i → ((start ≤ n) × (n < end)) ↔ (i ≡ place)
  pub ends : (n i : ℕ) → IsOfBinding p n i → (n < end) ↔ (i ≤ place)

-- what holds between two calls
pub record IsGoingEvery (s : EveryRows) : Type 0 where
  pub way : IsUnderWay s.rows s.upto
  pub below : AreBelow s.rows.index.now s.upto s.binding
  pub within : (s.binding ≡ 0) ⊎ (s.rows.from < length s.rows.universe.now.targets)
