-- A list of items, each of which gives a value or is bad.
use Rattle.std.specs.Prelude.{ℕ, Bool, true, List, [], Option, Some, None}
use Rattle.std.specs.List.{list_any, position_from}
use Rattle.serde_json.specs.Data.{Data}
use Rattle.json_fields.specs.Lists.{given_by}

-- what the items of a list give, nothing if it isn't a list
abbrev pub items_given : {X : Type 0} → (Data → Option X) → Option (List Data) → List X
items_given read None = []
items_given read (Some ds) = given_by read ds

-- a field isn't a list, or one of its items is bad
abbrev pub is_bad_list : (Data → Bool) → Option (List Data) → Bool
is_bad_list is_bad None = true
is_bad_list is_bad (Some ds) = list_any is_bad ds

-- the place of the first item that is bad, or 0 if it isn't a list
abbrev pub first_bad : (Data → Bool) → Option (List Data) → Option ℕ
first_bad is_bad None = Some 0
first_bad is_bad (Some ds) = position_from is_bad 0 ds
