-- A list of items, each of which gives a value or is bad.
use Rattle.std.specs.Prelude.{◌≡◌, ℕ, List, [], ◌∷◌, Option, Some, None, is_none, option_map}
use Rattle.std.specs.Prelude.{Result, Ok, Err, Vec}
use Rattle.std.specs.declared.alloc.Global.{Global}
use Rattle.std.specs.List.{position_from, filter_map}
use Rattle.serde_json.specs.Data.{Data}
use Rattle.json_fields.specs.declared.trouble.Trouble.{Trouble}
use Rattle.json_fields.specs.declared.trouble.Trouble.TheVariants.{Shape, Memory}
use Rattle.json_fields.specs.declared.trouble.ItemFault.{ItemFault}
use Rattle.json_fields.specs.declared.trouble.ItemFault.TheVariants.{Bad, WithoutMemory}

-- the place of the first item that is bad
unfoldable pub bad_place : {X : Type 0} → (Data → Option X) → ℕ → List Data → Option ℕ
bad_place read i ds = position_from (λ d. is_none (read d)) i ds

-- what the items give
unfoldable pub given_by : {X : Type 0} → (Data → Option X) → List Data → List X
given_by read ds = filter_map read ds

-- this value before the rest, if both are there
abbrev pub cons_if : {X : Type 0} → Option X → Option (List X) → Option (List X)
cons_if None rest = None
cons_if (Some x) rest = option_map (λ xs. x ∷ xs) rest

-- what all items give, if none is bad
abbrev pub all_at : {X : Type 0} → (Data → Option X) → List Data → Option (List X)
all_at read [] = Some []
all_at read (d ∷ ds) = cons_if (read d) (all_at read ds)

-- trouble with the item at a place
abbrev pub item_fault : Trouble → ℕ → ItemFault
item_fault Shape place = Bad place
item_fault Memory place = WithoutMemory

-- the trouble of an item's fault, without its place
abbrev pub trouble_with : ItemFault → Trouble
trouble_with (Bad place) = Shape
trouble_with WithoutMemory = Memory

-- All items were read, and none is bad; or the first bad one is named. If memory ran out, nothing
-- is stated.
abbrev pub ReadsAll : {X : Type 0} → Result (Vec X Global) ItemFault → (Data → Option X) → List Data
    → Type 0
ReadsAll (Ok xs) read ds = (all_at read ds ≡ Some xs.items) × (bad_place read 0 ds ≡ None)
    × (given_by read ds ≡ xs.items)
ReadsAll (Err (Bad place)) read ds = (all_at read ds ≡ None) × (bad_place read 0 ds ≡ Some place)
ReadsAll (Err WithoutMemory) read ds = Unit {0}
