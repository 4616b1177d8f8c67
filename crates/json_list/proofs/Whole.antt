-- A whole text, of which the inside of an object is known.
use Rattle.std.proofs.Common.{◌≡◌, ℕ, List, [], ◌∷◌, Option, Some, None, option_map, option_and_then, refl, sym, ap, ◌∙◌, subst, arith}
use Rattle.json.specs.Token.{Token}
use Rattle.json.specs.Lex.{tokens}
use Rattle.json.specs.Json as json
use Rattle.json.specs.Json.{parse_map}
use Rattle.json.proofs.Grammar.{value-begin_object}
use Rattle.serde_json.specs.Data.{Members, no_members}
use Rattle.serde_json.specs.Read.{of_json, read}
use Rattle.json_list.specs.List.{IsList, IsUnread}
use Rattle.json_list.specs.OnePass.{members_in, object_from, IsReadUpTo, IsListUpTo}
use Rattle.json_list.specs.Places.{AreRefused, HasOneList, IsUpToItems}
use Rattle.json_list.proofs.OnePass.{object_by}
use Rattle.json_list.proofs.Walks.{mapped, object_begins}

abbrev whole : Option (json.Json × List Token) → Option json.Json
whole o = option_and_then (λ p. json.if_last p.0 p.1) o

last_one : (o : Option (json.Json × List Token)) (j : json.Json) → whole o ≡ Some j → o ≡ Some (j, [])
last_one None j e = absurd (cc)
last_one (Some (i, [])) j e = ap (option_map (λ k. (k, []))) e
last_one (Some (i, t ∷ r)) j e = absurd (cc)

-- what a list has inside its braces
inside_list : (text : List ℕ) → IsList text → (ts : List Token) × (tokens text ≡ Token.begin_object ∷ ts) × HasOneList ts
inside_list text is =
    let all = last_one (json.value 127 (tokens text)) (json.object is.0) is.1 in
    let begin = object_begins 127 (tokens text) [] is.0 all in
    let inside = mapped json.object (members_in begin.0) (json.object is.0) [] (sym (ap (json.value 127) begin.1 ∙ value-begin_object 127 begin.0 (omega arith)) ∙ all) in
    let same : is.0 ≡ inside.0 = let e = inside.2 in cc in
    (begin.0, begin.1, (is.0, inside.1 ∙ ap (λ ms. Some (ms, [])) (sym same), is.2))

pub no_object : (text : List ℕ) → ((ts : List Token) → tokens text ≡ Token.begin_object ∷ ts → ⊥) → ¬ IsList text
no_object text other is = let inside = inside_list text is in other inside.0 inside.1

as_object : (o : Option (json.Members × List Token)) → option_and_then of_json (whole (parse_map json.object o)) ≡ object_by no_members o
as_object None = refl
as_object (Some (ms, [])) = refl
as_object (Some (ms, t ∷ r)) = refl

module _ (text : List ℕ) (ts : List Token) (begin : tokens text ≡ Token.begin_object ∷ ts) where
  inside : IsList text → HasOneList ts
  inside is =
      let found = inside_list text is in
      let same : found.0 ≡ ts = let e = sym found.1 ∙ begin in cc in
      subst HasOneList same found.2

  pub no_list : ¬ HasOneList ts → ¬ IsList text
  no_list other is = other (inside is)

  read_is : read text ≡ object_from no_members ts
  read_is = ap (λ o. option_and_then of_json (whole o)) (ap (json.value 127) begin ∙ value-begin_object 127 ts (omega arith)) ∙ as_object (members_in ts)

  pub refused : AreRefused ts → read text ≡ None
  refused unread = read_is ∙ unread

  -- what is read up to a list
  module _ (before : Members) (at : List Token) (are : IsUpToItems ts before at) where
    pub read_up_to : IsReadUpTo text before at
    read_up_to = read_is ∙ are.0

    pub list_up_to : IsListUpTo text at
    list_up_to is = are.1 (inside is)

-- ---- a text that is one value

unread_by : (o : Option (json.Json × List Token)) → ((j : json.Json) (r : List Token) → o ≡ Some (j, r) → of_json j ≡ None) → option_and_then of_json (whole o) ≡ None
unread_by None is = refl
unread_by (Some (j, [])) is = is j [] refl
unread_by (Some (j, t ∷ r)) is = refl

pub unread : (text : List ℕ) → IsUnread 127 (tokens text) → read text ≡ None
unread text is = unread_by (json.value 127 (tokens text)) is
