-- The pairs of a request and a binding, in order, and the pairs that are granted.
use Rattle.std.specs.Prelude.{◌≡◌, ◌⊎◌, List, [], ◌∷◌, map}
use Rattle.std.specs.List.{flat_map}
use Rattle.rbac_terms.specs.declared.granting.Binding.{Binding}
use Rattle.rbac_model.specs.Policies.{Held, Grants}
use Rattle.rbac_model.specs.Universes.{Cell, RowView, Fits}

-- ys are the elements of xs that have the property, in order
abbrev pub AreThose : {X : Type 0} → (X → Type 0) → List X → List X → Type 0
AreThose P [] ys = ys ≡ []
AreThose {X} P (x ∷ xs) ys = (P x × ((rest : List X) × AreThose P xs rest × (ys ≡ x ∷ rest)))
    ⊎ ((¬ P x) × AreThose P xs ys)

-- a request with a binding; a request with each of these bindings; and each of these requests with
-- each of these bindings
abbrev pub pair_of : Cell → Binding → RowView
pair_of c b = record { cell = c; binding = b }

abbrev pub cell_pairs : List Binding → Cell → List RowView
cell_pairs bs c = map (pair_of c) bs

abbrev pub pairs_of : List Binding → List Cell → List RowView
pairs_of bs cs = flat_map (cell_pairs bs) cs

-- the request fits, and the binding grants it
abbrev pub IsGranted : Held → RowView → Type 0
IsGranted h row = Fits row.cell
    × Grants h row.binding row.cell.who row.cell.namespace row.cell.verb row.cell.target.0
