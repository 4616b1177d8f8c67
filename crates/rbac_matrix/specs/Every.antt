-- Every granting binding: a row for each pair of a request that fits and a binding that grants it.
use Rattle.std.specs.Prelude.{◌≡◌, ◌≢◌, ◌↔◌, ◌⊎◌, ℕ, List, [], ◌∷◌, ◌++◌, Bool, true, Option, Some}
use Rattle.std.specs.Prelude.{None, Contains, take, filter, length, nat_lt}
use Rattle.std.specs.Ordering.{is_gt}
use Rattle.std.specs.declared.cmp.Ordering.TheVariants.{Greater}
use Rattle.std.specs.Cmp.Lexicographic.{slice_cmp}
use Rattle.rbac_terms.specs.Text.{Text, text_cmp}
use Rattle.rbac_terms.specs.Keys.{KeyTexts, texts, key_cmp}
use Rattle.rbac_terms.specs.declared.granting.Binding.{Binding}
use Rattle.rbac_model.specs.Lists.{IsAscendingBy}
use Rattle.rbac_model.specs.Policies.{Held, Grants, binding_name}
use Rattle.rbac_model.specs.Universes.{UniverseView, RowView, IsCellOf, Fits, cell_key}
use Rattle.rbac_token.specs.Marks.{name_texts}
use Rattle.rbac_token.specs.declared.mark.BindingName.{BindingName}
use Rattle.rbac_token.specs.declared.mark.Mark.{Mark}

-- the row's binding is held and grants the row's request, which is one of the universe and fits
abbrev pub IsEveryRow : Held → UniverseView → RowView → Type 0
IsEveryRow h u row =
    IsCellOf u row.cell × Fits row.cell × Contains h.bindings row.binding
    × Grants h row.binding row.cell.who row.cell.namespace row.cell.verb row.cell.target.0

-- the texts by which these rows are in order: the six texts of the key, then the binding's kind
-- word, namespace and name, by which bindings are in order
abbrev pub every_name : RowView → List Text
every_name row = texts (cell_key row.cell) ++ binding_name row.binding

-- all these rows, in order of keys, then of bindings (own)
pub record IsEvery (h : Held) (u : UniverseView) (rows : List RowView) : Type 0 where
  pub ordered : IsAscendingBy every_name rows
  pub exact : (row : RowView) → Contains rows row ↔ IsEveryRow h u row

-- a row comes after a mark whose key is less than the row's; and also after a mark with the same
-- key and a binding that comes before the row's binding (own)
abbrev pub comes_after : KeyTexts → Option BindingName → RowView → Bool
comes_after k None row = is_gt (key_cmp (cell_key row.cell) k)
comes_after k (Some b) row =
    is_gt (slice_cmp text_cmp (every_name row) (texts k ++ name_texts (Some b)))

-- a row comes after a mark with a binding, part by part: its key is greater, or its key is the
-- mark's and its binding comes after the mark's binding
abbrev pub StandsPast : KeyTexts → BindingName → RowView → Type 0
StandsPast k b row =
    (key_cmp (cell_key row.cell) k ≡ Greater)
    ⊎ ((cell_key row.cell ≡ k)
    × (slice_cmp text_cmp (binding_name row.binding) (name_texts (Some b)) ≡ Greater))

-- the rows that come after the mark; all rows if no mark is given
abbrev pub every_after : Option Mark → List RowView → List RowView
every_after None rows = rows
every_after (Some m) rows = filter (comes_after m.key m.binding) rows

-- the first n rows after the mark, and whether there is one more
abbrev pub every_page : Option Mark → ℕ → List RowView → List RowView × Bool
every_page m n rows = (take n (every_after m rows), nat_lt n (length (every_after m rows)))

-- the name of a binding; and the mark of a row, which is its key and its binding's name
abbrev pub marked_name : Binding → BindingName
marked_name b = record { namespace = b.namespace; name = b.name }

abbrev pub mark_of : RowView → Mark
mark_of row = record { key = cell_key row.cell; binding = Some (marked_name row.binding) }

-- the rows after a mark are its page, then the rows after the mark of the page's last row; the page
-- states that more rows follow exactly if some do (own)
abbrev pub EveryPageJoins : Option Mark → ℕ → List RowView → RowView → Type 0
EveryPageJoins m n rows last =
    (every_after m rows ≡ (every_page m n rows).0 ++ every_after (Some (mark_of last)) rows)
    × (((every_page m n rows).1 ≡ true) ↔ (every_after (Some (mark_of last)) rows ≢ []))

-- each nonempty page of the rows of every granting binding, at any limit, joins the rows after the
-- mark of its last row (own)
abbrev pub EveryPagesJoin : Type 0
EveryPagesJoin =
    (held : Held) (u : UniverseView) (rows : List RowView) → IsEvery held u rows
    → (m : Option Mark) (n : ℕ) (before : List RowView) (last : RowView)
    → (every_page m n rows).0 ≡ before ++ last ∷ [] → EveryPageJoins m n rows last
