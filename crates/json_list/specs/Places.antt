-- Where a reader is in an object or in its list of items; for private clauses.
use Rattle.std.specs.Prelude.{◌≡◌, ℕ, List, [], Option, Some, None, option_and_then}
use Rattle.std.specs.Prelude.{MatchOption}
use Rattle.json.specs.Token.{Token}
use Rattle.json.specs.Json as json
use Rattle.serde_json.specs.Data.{Data, array, Items, Members, no_members, put}
use Rattle.json_list.specs.Lean.{lean}
use Rattle.json_list.specs.List.{items_name, HaveOneList}
use Rattle.json_list.specs.OnePass.{items_and_rest, members_in, object_from, OthersFollow}

-- no object is read
abbrev pub AreRefused : List Token → Type 0
AreRefused old = object_from no_members old ≡ None

-- the text ends with an object that has `items` once, and it is a list
abbrev pub HasOneList : List Token → Type 0
HasOneList old = (ms : json.Members) × (members_in old ≡ Some (ms, [])) × HaveOneList ms

-- the members up to a list under `items` are these, and the tokens `at` follow the bracket that
-- opens the list
abbrev pub IsUpToItems : List Token → Members → List Token → Type 0
IsUpToItems old found at =
    (object_from no_members old
    ≡ option_and_then (λ p. object_from (put items_name (array p.0) found) p.1)
    (items_and_rest at))
    × (HasOneList old → (ds : Items) (rest : List Token)
    → items_and_rest at ≡ Some (ds, rest) → OthersFollow rest)

-- what is kept of a member was added to the members found of its object; nothing, if the member is
-- left out
abbrev pub IsPutIn : {K : Type 0} → (K → List ℕ → Option K) → K → List ℕ → Data → Members → Members
    → Type 0
IsPutIn under kept name d old new = MatchOption (under kept name) (new ≡ old)
    (λ inner. new ≡ put name (lean under inner d) old)
