-- What `serde_json` makes of the tokens ahead; for private clauses.
use Rattle.std.specs.Prelude.{ℕ, List, Option}
use Rattle.json.specs.Token.{Token}
use Rattle.json.specs.Json as json
use Rattle.serde_json.specs.Data.{Data, Items, Members}
use Rattle.serde_json.specs.Read.{converted, of_json, of_items, of_members}

-- the value ahead, nested no deeper than this, and the tokens after it
abbrev pub value_read : ℕ → List Token → Option (Data × List Token)
value_read depth ts = converted of_json (json.value depth ts)

-- the items ahead up to the bracket that closes their array, in at most this many turns
abbrev pub items_read : ℕ → ℕ → List Token → Option (Items × List Token)
items_read depth turns ts = converted of_items (json.items (json.value depth) turns ts)

-- the members ahead up to the brace that closes their object, put into those found before them
abbrev pub members_read : ℕ → ℕ → Members → List Token → Option (Members × List Token)
members_read depth turns found ts =
    converted (λ ms. of_members ms found) (json.members (json.value depth) turns ts)
