-- A list that is read in one pass: what comes before its items, the items, and what comes after.
use Rattle.std.specs.Prelude.{◌≡◌, ℕ, List, [], ◌∷◌, length, Option, Some, None, option_map}
use Rattle.std.specs.Prelude.{option_and_then}
use Rattle.json.specs.Token.{Token}
use Rattle.json.specs.Json as json
use Rattle.serde_json.specs.Data.{Data, array, object, Items, Members, put}
use Rattle.serde_json.specs.Read.{converted, of_items, of_members, read}
use Rattle.json_list.specs.List.{items_name, values_of, IsList, with_items}

-- the items ahead up to the bracket that closes their list, and the tokens after it
abbrev pub items_and_rest : List Token → Option (Items × List Token)
items_and_rest ts = converted of_items (json.items (json.value 125) (length ts) ts)

-- the members ahead up to the brace that closes their object, and the tokens after it
abbrev pub members_in : List Token → Option (json.Members × List Token)
members_in ts = json.members (json.value 126) (length ts) ts

-- what was read, if the text ends with it
abbrev pub if_ended : {A : Type 0} → Option (A × List Token) → Option A
if_ended None = None
if_ended (Some (a, [])) = Some a
if_ended (Some (a, t ∷ ts)) = None

-- the object with these members and those ahead, with which the text ends
abbrev pub object_from : Members → List Token → Option Data
object_from found ts =
    option_map object (option_and_then (λ ms. of_members ms found) (if_ended (members_in ts)))

-- A text is read up to a list under `items`: it is the object with these members before the list,
-- the items ahead, and the members after them.
abbrev pub IsReadUpTo : List ℕ → Members → List Token → Type 0
IsReadUpTo text before ahead = read text
    ≡ option_and_then (λ p. object_from (put items_name (array p.0) before) p.1)
    (items_and_rest ahead)

-- the members ahead, with which the text ends, have no `items` among them
abbrev pub OthersFollow : List Token → Type 0
OthersFollow ts = (ms : json.Members) × (members_in ts ≡ Some (ms, []))
    × (values_of items_name ms ≡ [])

-- if a text is a list, what follows its items has no `items`
abbrev pub IsListUpTo : List ℕ → List Token → Type 0
IsListUpTo text ahead = IsList text → (ds : Items) (rest : List Token)
    → items_and_rest ahead ≡ Some (ds, rest) → OthersFollow rest

-- these are all members of an object but its list: those before the list, and those ahead
abbrev pub AreTheOthers : Members → List Token → Members → Type 0
AreTheOthers before ts others = (ds : Items)
    → object_from (put items_name (array ds) before) ts ≡ Some (with_items others ds)
