-- requests that are passed, and the rows that they have
use Rattle.std.proofs.Common.{◌≡◌, ℕ, zero, suc, ◌+◌, ◌<◌, ◌≤◌, List, [], ◌∷◌, ◌++◌, length, get_or, refl, ap, ◌∙◌, sym, arith, append_assoc, subst, inl, inr, add-one}
use Rattle.std.specs.Prelude.{Some, slice_get}
use Rattle.std.proofs.Math.Seq.{drop-cons}
use Rattle.std.proofs.lemmas.List.{drop_all}
use Rattle.std.proofs.lemmas.Option.{get_or_from_slice_get, slice_get_within}
use Rattle.rbac_terms.specs.declared.granting.Binding.{Binding}
use Rattle.rbac_terms.proofs.Reading.{read_some}
use Rattle.rbac_model.specs.Policies.{Held}
use Rattle.rbac_model.specs.Universes.{UniverseView, Listed, Cell, RowView}
use Rattle.rbac_matrix.specs.Cells.{AreRowsOf, HasRow}
use Rattle.rbac_matrix.specs.Lines.{LineView, line_cells_from}
use Rattle.rbac_matrix.specs.Passing.{Passes, cell_of}
use Rattle.rbac_matrix.proofs.RowLemmas.{rows_one, rows_append, rows_split}

pub same_head : {X : Type 0} (x y : X) (xs ys : List X) → x ∷ xs ≡ y ∷ ys → x ≡ y
same_head x y xs ys e = cc

pub no_head : {X : Type 0} (x : X) (xs : List X) → x ∷ xs ≡ [] → ⊥
no_head x xs e = cc

module _ (h : Held) where
  pub passes_none : (cs : List Cell) → Passes h cs cs []
  passes_none cs = record { between = []; whole = refl; are = refl }

  pub passes_then : (cs ds es : List Cell) (rs ss : List RowView) → Passes h cs ds rs → Passes h ds es ss → Passes h cs es (rs ++ ss)
  passes_then cs ds es rs ss p q = record {
    between = p.between ++ q.between;
    whole = p.whole ∙ ap (λ (l : List Cell). p.between ++ l) q.whole ∙ sym (append_assoc p.between q.between es);
    are = rows_append h p.between q.between rs ss p.are q.are;
  }

  pub passes_more : (cs ds xs : List Cell) (rs : List RowView) → Passes h cs ds rs → Passes h (cs ++ xs) (ds ++ xs) rs
  passes_more cs ds xs rs p = record {
    between = p.between;
    whole = ap (λ (l : List Cell). l ++ xs) p.whole ∙ append_assoc p.between ds xs;
    are = p.are;
  }

  -- the rows of all requests are those of the passed requests, then those of the others
  pub passes_rows : (cs ds : List Cell) (rs ss : List RowView) → Passes h cs ds rs → AreRowsOf h ds ss → AreRowsOf h cs (rs ++ ss)
  passes_rows cs ds rs ss p are = subst (λ (l : List Cell). AreRowsOf h l (rs ++ ss)) (sym p.whole) (rows_append h p.between ds rs ss p.are are)

  pub passes_left : (cs ds : List Cell) (rs all : List RowView) → Passes h cs ds rs → AreRowsOf h cs all → (ss : List RowView) × (all ≡ rs ++ ss) × AreRowsOf h ds ss
  passes_left cs ds rs all p are =
      let split = rows_split h p.between ds all (subst (λ (l : List Cell). AreRowsOf h l all) p.whole are) in
      let same : split.0 ≡ rs = rows_one h p.between split.0 rs split.2 p.are in
      (split.1, split.4 ∙ ap (λ (l : List RowView). l ++ split.1) same, split.3)

module _ (u : UniverseView) (l : LineView) where
  -- the requests of a line, target by target
  pub line_step : (from : ℕ) (t : Listed) → slice_get u.targets from ≡ Some t → line_cells_from u from l ≡ cell_of l t ∷ line_cells_from u (from + 1) l
  unfolding line_cells_from
  line_step from t at =
      let lt : from < length u.targets = slice_get_within u.targets from t at in
      let e : get_or u.targets from t ≡ t = get_or_from_slice_get u.targets from t t at in
      rw (add-one, drop-cons u.targets from t lt, e) refl

  pub line_over : (from : ℕ) → length u.targets ≤ from → line_cells_from u from l ≡ []
  unfolding line_cells_from
  line_over from h = rw (drop_all from u.targets h) refl

  module _ (h : Held) where
    pub row_passes : (from : ℕ) (t : Listed) (b : Binding) → slice_get u.targets from ≡ Some t → HasRow h (cell_of l t) b → Passes h (line_cells_from u from l) (line_cells_from u (from + 1) l) (record { cell = cell_of l t; binding = b } ∷ [])
    row_passes from t b at has = record { between = cell_of l t ∷ []; whole = line_step from t at; are = inl (b, [], has, refl, refl) }

    pub no_row_passes : (from : ℕ) (t : Listed) → slice_get u.targets from ≡ Some t → ((b : Binding) → HasRow h (cell_of l t) b → ⊥) → Passes h (line_cells_from u from l) (line_cells_from u (from + 1) l) []
    no_row_passes from t at none = record { between = cell_of l t ∷ []; whole = line_step from t at; are = inr (none, refl) }

    -- targets whose requests have no row are passed
    pub passes_over : (from n : ℕ) → from + n ≤ length u.targets → ((at : ℕ) (t : Listed) → from ≤ at → at < from + n → slice_get u.targets at ≡ Some t → (b : Binding) → HasRow h (cell_of l t) b → ⊥) → Passes h (line_cells_from u from l) (line_cells_from u (from + n) l) []
    passes_over from zero le none = let e : from + 0 ≡ from = omega arith in rw e (passes_none h (line_cells_from u from l))
    passes_over from (suc n) le none =
        let e : from + suc n ≡ from + n + 1 = omega arith in
        let lt : from + n < length u.targets = omega arith in
        let t = read_some u.targets (from + n) lt in
        let first = passes_over from n (omega arith) (λ at t low high. none at t low (omega arith)) in
        let last = no_row_passes (from + n) t.0 t.1 (none (from + n) t.0 (omega arith) (omega arith) t.1) in
        rw e (passes_then h (line_cells_from u from l) (line_cells_from u (from + n) l) (line_cells_from u (from + n + 1) l) [] [] first last)
