-- the next of the rows that are left, and which are left at first
use Rattle.std.proofs.Common.{◌≡◌, List, subst}
use Rattle.std.specs.Prelude.{Option, Some, None, true, false}
use Rattle.std.specs.Option.{option_map}
use Rattle.rbac_model.specs.Policies.{PolicyView, IsPolicy}
use Rattle.rbac_model.specs.Universes.{UniverseView, RowView, IsUniverse, IsMatrix, rows_after}
use Rattle.rbac_terms.specs.Keys.{KeyTexts}
use Rattle.rbac_token.specs.declared.mark.Mark.{Mark}
use Rattle.rbac_matrix.specs.Enumeration.{AreLeft, GivesFirstLeft, IsGoing}
use Rattle.rbac_matrix.specs.Every.{IsEvery, every_after}
use Rattle.rbac_matrix.specs.EveryLeft.{AreEveryLeft, GivesEvery, IsGoingEvery}
use Rattle.rbac_matrix.specs.declared.enumeration.Rows.{Rows}
use Rattle.rbac_matrix.specs.declared.every_rows.EveryRows.{EveryRows}
use Rattle.rbac_matrix.specs.declared.row.Row.{Row}
use Rattle.rbac_matrix.proofs.NoneLeft.{every_none, rows_none}
use Rattle.rbac_cli.specs.MatrixRows.{AreRowsLeft, GivesNextRow}
use Rattle.rbac_cli.specs.MatrixPage.{AreRows, rows_past}
use Rattle.rbac_cli.specs.declared.matrix_rows.MatrixRows.TheVariants.{First, Every}

pub first_gives : (s t : Rows) (r : Option Row) → GivesFirstLeft s r t → GivesNextRow (First s) r (First t)
first_gives s t None g = λ all left. rows_none s all left g.0
first_gives s t (Some row) g = (g.row, g.shows, λ all left. (g.left all).0 left)

pub every_gives : (s t : EveryRows) (r : Option Row) → GivesEvery s r t → GivesNextRow (Every s) r (Every t)
every_gives s t None g = λ all left. every_none s all left g.0
every_gives s t (Some row) g = (g.row, g.shows, λ all left. (g.left all).0 left)

module _ (p : PolicyView) (u : UniverseView) (m : Option Mark) where
  pub every_listed : (r : EveryRows) → IsGoingEvery r → r.rows.index.now ≡ p → r.rows.universe.now ≡ u
      → (IsPolicy p → IsUniverse u → (rows : List RowView) × IsEvery p.held u rows)
      → ((rows : List RowView) → IsEvery p.held u rows → AreEveryLeft r (every_after m rows))
      → (rows : List RowView) × AreRows true p.held u rows × AreRowsLeft (Every r) (rows_past true m rows)
  every_listed r going index universe there left =
      let rows = there (subst IsPolicy index going.way.policy) (subst IsUniverse universe going.way.universe) in
      (rows.0, rows.1, left rows.0 rows.1)

  pub first_listed : (r : Rows) (k : Option KeyTexts) → k ≡ option_map (λ x. x.key) m → IsGoing r → r.index.now ≡ p → r.universe.now ≡ u
      → (IsPolicy p → IsUniverse u → (rows : List RowView) × IsMatrix p.held u rows)
      → ((rows : List RowView) → IsMatrix p.held u rows → AreLeft r (rows_after k rows))
      → (rows : List RowView) × AreRows false p.held u rows × AreRowsLeft (First r) (rows_past false m rows)
  first_listed r k same going index universe there left =
      let rows = there (subst IsPolicy index going.policy) (subst IsUniverse universe going.universe) in
      (rows.0, rows.1, subst (λ (key : Option KeyTexts). AreLeft r (rows_after key rows.0)) same (left rows.0 rows.1))
