-- Which texts are lists, what the items of a list are, and what its other members are.
use Rattle.std.specs.Prelude.{◌≡◌, ℕ, List, [], ◌∷◌, bytes_eq, cond, codes, Option, Some, None}
use Rattle.std.specs.Prelude.{option_and_then}
use Rattle.json.specs.Token.{Token}
use Rattle.json.specs.Lex.{tokens}
use Rattle.json.specs.Json as json
use Rattle.serde_json.specs.Data.{Data, array, object, Items, Members, put}
use Rattle.serde_json.specs.Read.{max_depth, of_json}

-- the name of the member that holds the items
abbrev pub items_name : List ℕ
items_name = codes "items"

-- the JSON that a text is, if it nests no deeper than `serde_json` reads
abbrev pub json_of : List ℕ → Option json.Json
json_of text = option_and_then (λ p. json.if_last p.0 p.1) (json.value max_depth (tokens text))

-- the values of the members of this name, in order
abbrev pub values_of : List ℕ → json.Members → List json.Json
values_of name json.no_members = []
values_of name (json.member k j ms) =
    cond (bytes_eq k name) (j ∷ values_of name ms) (values_of name ms)

-- these members have `items` once, and it is a list
abbrev pub HaveOneList : json.Members → Type 0
HaveOneList ms = (js : json.Items) × (values_of items_name ms ≡ json.array js ∷ [])

-- a text is a list: an object that has `items` once, and it is a list
abbrev pub IsList : List ℕ → Type 0
IsList text = (ms : json.Members) × (json_of text ≡ Some (json.object ms)) × HaveOneList ms

-- the object with these members, and these items under `items`
abbrev pub with_items : Members → Items → Data
with_items ms ds = object (put items_name (array ds) ms)

-- ---- one value; for private clauses

-- this value is read from the tokens `old`, and the tokens `new` are left
abbrev pub IsRead : ℕ → List Token → Data → List Token → Type 0
IsRead depth old d new = (j : json.Json) × (json.value depth old ≡ Some (j, new))
    × (of_json j ≡ Some d)

-- no value is read from the tokens
abbrev pub IsUnread : ℕ → List Token → Type 0
IsUnread depth old = (j : json.Json) (new : List Token) → json.value depth old ≡ Some (j, new)
    → of_json j ≡ None
