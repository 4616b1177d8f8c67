-- How the pages of a matrix join.
use Rattle.std.specs.Prelude.{◌≡◌, ◌≢◌, ◌↔◌, ℕ, List, [], ◌∷◌, ◌++◌, Option, Some, true}
use Rattle.rbac_terms.specs.Keys.{KeyTexts}
use Rattle.rbac_model.specs.Policies.{Held}
use Rattle.rbac_model.specs.Universes.{UniverseView, RowView, IsMatrix, cell_key, rows_after, page}

-- the rows after a key are its page, then the rows after the key of the page's last row; the page
-- states that more rows follow exactly if some do (own)
abbrev pub PageJoins : Option KeyTexts → ℕ → List RowView → RowView → Type 0
PageJoins k n rows last =
    (rows_after k rows ≡ (page k n rows).0 ++ rows_after (Some (cell_key last.cell)) rows)
    × (((page k n rows).1 ≡ true) ↔ (rows_after (Some (cell_key last.cell)) rows ≢ []))

-- each nonempty page of a matrix, at any limit, joins the rows after the key of its last row (own)
abbrev pub PagesJoin : Type 0
PagesJoin =
    (held : Held) (u : UniverseView) (rows : List RowView) → IsMatrix held u rows
    → (k : Option KeyTexts) (n : ℕ) (before : List RowView) (last : RowView)
    → (page k n rows).0 ≡ before ++ last ∷ [] → PageJoins k n rows last
