-- Each policy has a matrix over each universe.
use Rattle.std.proofs.Common.{List, [], ◌∷◌, ◌⊎◌, inl, inr, refl}
use Rattle.rbac_terms.specs.declared.granting.Binding.{Binding}
use Rattle.rbac_model.specs.Policies.{PolicyView, IsPolicy}
use Rattle.rbac_model.specs.Universes.{UniverseView, IsUniverse, Cell, RowView, IsMatrix}
use Rattle.rbac_matrix.specs.Cells.{HasRow, AreRowsOf, cells_of}
use Rattle.rbac_matrix.proofs.RowLemmas.{row_at}
use Rattle.rbac_model.proofs.Decided.{either, is_true, is_nil}
use Rattle.rbac_matrix.proofs.Decided.{first}
use Rattle.rbac_matrix.proofs.OneMatrix.{is_matrix}

module _ (p : PolicyView) (is : IsPolicy p) where
  row_or_none : (c : Cell) → ((b : Binding) × HasRow p.held c b) ⊎ ((b : Binding) → HasRow p.held c b → ⊥)
  row_or_none c = elim (either (is_true c.target.1) (is_nil c.namespace)) [
    | inl fits ↦ elim (first p.held is.0 c.who c.namespace c.verb c.target.0 p.held.bindings p.grants is.1) [
      | inl f ↦ inl (f.1, (fits, (f.0, f.2)))
      | inr none ↦ inr (λ b w. none w.1.0 b w.1.1.here w.1.1.holds)
    ]
    | inr out ↦ inr (λ b w. out w.0)
  ]

  pub some_rows : (cs : List Cell) → (rows : List RowView) × AreRowsOf p.held cs rows
  some_rows [] = ([], refl)
  some_rows (c ∷ cs) = let rest = some_rows cs in elim (row_or_none c) [
    | inl f ↦ (row_at c f.0 ∷ rest.0, inl (f.0, rest.0, f.1, rest.1, refl))
    | inr none ↦ (rest.0, inr (none, rest.1))
  ]

  pub some_matrix : (u : UniverseView) → IsUniverse u → (rows : List RowView) × IsMatrix p.held u rows
  some_matrix u universe = let rows = some_rows (cells_of u) in (rows.0, is_matrix p.held u universe rows.0 rows.1)
