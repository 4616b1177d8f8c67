-- Where the rows of every granting binding that come after a mark begin.
use Rattle.std.specs.Prelude.{◌≡◌, ℕ, ◌<◌, ◌≤◌, List, ◌++◌, Contains, Option, Some, None, slice_get}
use Rattle.std.specs.Prelude.{true}
use Rattle.std.specs.declared.cmp.Ordering.TheVariants.{Greater}
use Rattle.std.specs.Cmp.Lexicographic.{slice_cmp}
use Rattle.rbac_terms.specs.Text.{text_cmp}
use Rattle.rbac_terms.specs.Keys.{KeyTexts}
use Rattle.rbac_terms.specs.declared.granting.Binding.{Binding}
use Rattle.rbac_model.specs.Policies.{Held, binding_name}
use Rattle.rbac_model.specs.Universes.{UniverseView, Cell, IsCellOf, RowView}
use Rattle.rbac_token.specs.Marks.{name_texts}
use Rattle.rbac_token.specs.declared.mark.BindingName.{BindingName}
use Rattle.rbac_token.specs.declared.mark.Mark.{Mark}
use Rattle.rbac_matrix.specs.Cells.{cells_of}
use Rattle.rbac_matrix.specs.Every.{comes_after}
use Rattle.rbac_matrix.specs.EveryLeft.{pairs_from}
use Rattle.rbac_matrix.specs.Metering.{AreSought}
use Rattle.rbac_matrix.specs.Pairs.{IsGranted, pairs_of}
use Rattle.rbac_matrix.specs.Passing.{cells_left}
use Rattle.rbac_matrix.specs.Starting.{BeginsOnLine, IsOwnPlace, IsFoundAt, IsStart, cell_name}
use Rattle.rbac_reaches.specs.Matched.{what_texts}
use Rattle.rbac_matrix.specs.Starting.{target_part, whats}
use Rattle.rbac_terms.specs.Keys.{texts}
use Rattle.rbac_matrix.specs.declared.line.Place.{Place}
use Rattle.rbac_matrix.specs.declared.every_rows.EveryRows.{EveryRows}

-- the key of a mark, if there is one
abbrev pub key_of_mark : Option Mark → Option KeyTexts
key_of_mark None = None
key_of_mark (Some m) = Some m.key

-- a row comes after the mark; without a mark, each row does
abbrev pub ComesAfter : Option Mark → RowView → Type 0
ComesAfter None row = Unit {0}
ComesAfter (Some m) row = comes_after m.key m.binding row ≡ true

-- the granted pairs from this place of a line, a target and a binding on come after the mark, and
-- no granted pair before does
pub record IsEveryStart (h : Held) (u : UniverseView) (m : Option Mark) (at : Place)
    (from place : ℕ) : Type 0 where
  pub before : List RowView
  pub whole : pairs_of h.bindings (cells_of u)
      ≡ before ++ pairs_from h.bindings place (cells_left u at from)
  pub early : (r : RowView) → Contains before r → IsGranted h r → ComesAfter m r → ⊥
  pub late : (r : RowView) → Contains (pairs_from h.bindings place (cells_left u at from)) r
      → IsGranted h r → ComesAfter m r

-- the requests after the key begin on this line, which is the key's own if the universe has it; the
-- target at `from` comes no later than that of the first of them
pub record IsKeyStart (u : UniverseView) (k : Option KeyTexts) (at : Place)
    (from : ℕ) : Type 0 where
  pub first : ℕ
  pub start : IsStart u k at first
  pub line : BeginsOnLine u k at first
  pub within : from ≤ first

-- the rows begin on the first line, where the requests after the key begin; the first entry was
-- searched for no more cursors than the line has, and for none if the rows begin with the line's
-- first target
pub record EveryStarts (s : EveryRows) (k : Option KeyTexts) : Type 0 where
  pub start : IsKeyStart s.rows.universe.now k s.rows.start s.rows.from
  pub here : s.rows.at ≡ s.rows.start
  pub whole : s.rows.from ≡ 0 → s.rows.sought ≡ 0
  pub sought : AreSought s.rows.index.now s.rows.universe.now s.rows.start s.rows.sought

-- the request with the key is at this place of a line and this place of a target
pub record IsOwnRequest (u : UniverseView) (k : KeyTexts) (at : Place) (place : ℕ) : Type 0 where
  pub line : IsOwnPlace u k at
  pub target : IsFoundAt (slice_cmp text_cmp) what_texts (whats u) (target_part k) place

-- no request of the universe has the texts of the key
abbrev pub HasNoRequest : UniverseView → KeyTexts → Type 0
HasNoRequest u k = (c : Cell) → IsCellOf u c → cell_name c ≡ texts k → ⊥

-- the bindings before the place come no later than the name, and the other bindings come after it
pub record ArePastName (bs : List Binding) (b : BindingName) (place : ℕ) : Type 0 where
  pub below : (j : ℕ) (x : Binding) → j < place → slice_get bs j ≡ Some x
      → slice_cmp text_cmp (binding_name x) (name_texts (Some b)) ≡ Greater → ⊥
  pub above : (j : ℕ) (x : Binding) → place ≤ j → slice_get bs j ≡ Some x
      → slice_cmp text_cmp (binding_name x) (name_texts (Some b)) ≡ Greater
