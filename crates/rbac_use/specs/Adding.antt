-- Lines that are added, in order.
use Rattle.std.specs.Prelude.{◌≡◌, ◌<◌, ◌++◌, ℕ, List}
use Rattle.rbac_use.specs.Unused.{AreExactly}
use Rattle.rbac_use.specs.declared.unused.Part.{Part}
use Rattle.rbac_use.specs.declared.unused.Unused.{Unused}

-- new is old, followed by exactly the lines with the property, in order
unfoldable pub AddsLines : (Unused → Type 0) → List Unused → List Unused → Type 0
AddsLines P old new = (xs : List Unused) × AreExactly P xs × (new ≡ old ++ xs)

-- a line of one of the first n places
abbrev pub OfFirst : (ℕ → Unused → Type 0) → ℕ → Unused → Type 0
OfFirst P n x = (k : ℕ) × (k < n) × P k x

-- a line of some place
abbrev pub OfSome : (ℕ → Unused → Type 0) → Unused → Type 0
OfSome P x = (k : ℕ) × P k x

-- the line of that part of the binding at that place
abbrev pub line_at : ℕ → Part → Unused
line_at place part = record { binding = place; part = part }
