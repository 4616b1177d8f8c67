-- the matrix has the rows of its universe's requests, and is one list
use Rattle.std.proofs.Common.{◌≡◌, ℕ, ◌<◌, List, length, get_or, Contains, IsTrue, Less, Ordering, sym, ap₂, ◌∙◌, refl, arith}
use Rattle.std.specs.Ordering.{is_lt}
use Rattle.std.specs.Cmp.Lexicographic.{slice_cmp}
use Rattle.std.proofs.lemmas.List.Elements.{Contains-get_or}
use Rattle.rbac_terms.specs.Text.{Text, text_cmp}
use Rattle.rbac_terms.specs.Keys.{texts}
use Rattle.rbac_model.specs.Lists.{by_name, IsAscendingBy}
use Rattle.rbac_model.specs.Policies.{Held}
use Rattle.rbac_model.specs.Universes.{UniverseView, IsUniverse, RowView, IsCellOf, Fits, IsMatrix, cell_key}
use Rattle.rbac_model.proofs.NamePlaces.{is_less}
use Rattle.rbac_model.proofs.OneList.{one_list}
use Rattle.rbac_matrix.specs.Cells.{AreRowsOf, cells_of}
use Rattle.rbac_matrix.proofs.RowLemmas.{rows_sound, rows_complete, rows_ascend, rows_from}
use Rattle.rbac_matrix.specs.Starting.{cell_name}
use Rattle.rbac_matrix.proofs.Product.{key_texts, in_cells, cells_in, cells_ascend}

less_is : (o : Ordering) → o ≡ Less → IsTrue (is_lt o)
less_is o e = rw e refl

-- rows are named by the texts of their keys
abbrev pub key_name : RowView → List Text
key_name r = texts (cell_key r.cell)

-- the rows of a matrix are in order of their keys
pub by_keys : (h : Held) (u : UniverseView) (rows : List RowView) → IsMatrix h u rows → IsAscendingBy key_name rows
by_keys h u rows m i j d lt l = is_less _ (m.ordered i j d lt l)

pub one_matrix : (h : Held) (u : UniverseView) (rows others : List RowView) → IsMatrix h u rows → IsMatrix h u others → rows ≡ others
one_matrix h u rows others m n =
    one_list key_name rows others (by_keys h u rows m) (by_keys h u others n) (λ r w. (n.exact r).1 ((m.exact r).0 w)) (λ r w. (m.exact r).1 ((n.exact r).0 w))

module _ (h : Held) (u : UniverseView) (is : IsUniverse u) (rows : List RowView) where
  -- rows whose requests fit compare by their keys as their requests compare by their texts
  same_order : ((r : RowView) → Contains rows r → IsCellOf u r.cell × Fits r.cell) → (i j : ℕ) (d : RowView) → i < j → j < length rows
      → slice_cmp text_cmp (key_name (get_or rows i d)) (key_name (get_or rows j d)) ≡ by_name (λ (r : RowView). cell_name r.cell) (get_or rows i d) (get_or rows j d)
  same_order fit i j d lt l =
      let a = fit (get_or rows i d) (Contains-get_or rows i d (omega arith)) in
      let b = fit (get_or rows j d) (Contains-get_or rows j d (omega arith)) in
      ap₂ (λ (x y : List Text). slice_cmp text_cmp x y) (key_texts u (get_or rows i d).cell is a.0 a.1) (key_texts u (get_or rows j d).cell is b.0 b.1)

  pub is_matrix : AreRowsOf h (cells_of u) rows → IsMatrix h u rows
  is_matrix are =
      let sound = rows_sound h (cells_of u) rows are in
      let fit : (r : RowView) → Contains rows r → IsCellOf u r.cell × Fits r.cell = λ r w. let s = sound r w in (in_cells u r.cell s.0, s.1.0) in
      let up = rows_ascend h cell_name (cells_of u) rows are (cells_ascend u is) in
      record {
        ordered = λ i j d lt l. less_is _ (same_order fit i j d lt l ∙ up i j d lt l);
        exact = λ r. (
          λ w. let s = sound r w in (in_cells u r.cell s.0, s.1.0, s.1.1),
          λ row. rows_complete h (cells_of u) rows are r (cells_in u r.cell row.0) (row.1, row.2),
        );
      }

  pub matrix_rows : IsMatrix h u rows → AreRowsOf h (cells_of u) rows
  matrix_rows m =
      let fit : (r : RowView) → Contains rows r → IsCellOf u r.cell × Fits r.cell = λ r w. let row = (m.exact r).0 w in (row.0, row.1) in
      rows_from h cell_name (cells_of u) rows (cells_ascend u is)
      (λ i j d lt l. sym (same_order fit i j d lt l) ∙ by_keys h u rows m i j d lt l)
      (λ r w. let row = (m.exact r).0 w in (cells_in u r.cell row.0, (row.1, row.2)))
      (λ r w has. (m.exact r).1 (in_cells u r.cell w, has.0, has.1))
