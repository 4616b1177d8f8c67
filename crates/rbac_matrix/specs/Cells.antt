-- The requests of a universe, in order, and the rows that they have.
use Rattle.std.specs.Prelude.{◌≡◌, ◌⊎◌, List, [], ◌∷◌, map}
use Rattle.std.specs.List.{flat_map}
use Rattle.rbac_terms.specs.Text.{Text}
use Rattle.rbac_terms.specs.Principals.{Who}
use Rattle.rbac_terms.specs.declared.granting.Binding.{Binding}
use Rattle.rbac_model.specs.Policies.{Held, IsFirst}
use Rattle.rbac_model.specs.Universes.{UniverseView, Listed, Cell, RowView, Fits}

abbrev pub cell_at : Who → Text → Text → Listed → Cell
cell_at who namespace verb t = record { who = who; namespace = namespace; verb = verb; target = t }

-- the requests of a principal in a namespace for a verb; of a principal in a namespace; of a
-- principal; and all requests
abbrev pub line_cells : UniverseView → Who → Text → Text → List Cell
line_cells u who namespace verb = map (cell_at who namespace verb) u.targets

abbrev pub namespace_cells : UniverseView → Who → Text → List Cell
namespace_cells u who namespace = flat_map (line_cells u who namespace) u.verbs

abbrev pub principal_cells : UniverseView → Who → List Cell
principal_cells u who = flat_map (namespace_cells u who) u.namespaces

abbrev pub cells_of : UniverseView → List Cell
cells_of u = flat_map (principal_cells u) u.principals

-- the request fits, and this binding is the first that grants it
abbrev pub HasRow : Held → Cell → Binding → Type 0
HasRow h c b = Fits c × IsFirst h c.who c.namespace c.verb c.target.0 b

-- the rows of these requests, in order: one for each request that has one
abbrev pub AreRowsOf : Held → List Cell → List RowView → Type 0
AreRowsOf h [] rows = rows ≡ []
AreRowsOf h (c ∷ cs) rows =
    ((b : Binding) × (rest : List RowView) × HasRow h c b × AreRowsOf h cs rest
    × (rows ≡ record { cell = c; binding = b } ∷ rest))
    ⊎ (((b : Binding) → ¬ HasRow h c b) × AreRowsOf h cs rows)
