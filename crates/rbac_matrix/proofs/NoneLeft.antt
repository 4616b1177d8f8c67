-- when an enumeration is over, no rows are left
use Rattle.std.proofs.Common.{◌≡◌, List, [], ◌∷◌, length, ap, inl, inr, arith}
use Rattle.rbac_model.specs.Universes.{RowView}
use Rattle.rbac_matrix.specs.Enumeration.{AreLeft}
use Rattle.rbac_matrix.specs.EveryLeft.{AreEveryLeft, pairs_here}
use Rattle.rbac_matrix.specs.Pairs.{AreThose, IsGranted}
use Rattle.rbac_matrix.specs.Passing.{cells_left}
use Rattle.rbac_matrix.specs.declared.enumeration.Rows.{Rows}
use Rattle.rbac_matrix.specs.declared.every_rows.EveryRows.{EveryRows}
use Rattle.rbac_matrix.proofs.RowLemmas.{rows_one}

pub rows_none : (t : Rows) (others : List RowView) → AreLeft t others → AreLeft t [] → others ≡ []
unfolding AreLeft
rows_none t others left none = rows_one t.index.now.held (cells_left t.universe.now t.at t.from) others [] left none

those_none : {X : Type 0} (P : X → Type 0) (xs ys : List X) → AreThose P xs ys → AreThose P xs [] → ys ≡ []
those_none P [] ys those none = those
those_none P (x ∷ xs) ys those (inl p) = absurd (omega (arith, ap length p.1.2))
those_none P (x ∷ xs) ys (inl p) (inr none) = absurd (none.0 p.0)
those_none P (x ∷ xs) ys (inr p) (inr none) = those_none P xs ys p.1 none.1

pub every_none : (t : EveryRows) (others : List RowView) → AreEveryLeft t others → AreEveryLeft t [] → others ≡ []
unfolding AreEveryLeft
every_none t others left none = those_none (IsGranted t.rows.index.now.held) (pairs_here t) others left none
