-- The members before a list, its items, and the members after it, in one pass.
use Rattle.std.proofs.Common.{◌≡◌, ℕ, zero, suc, ◌<◌, ◌≤◌, List, [], ◌∷◌, length, Bool, true, false, bytes_eq, cond, Option, Some, None, option_map, option_and_then, refl, sym, ap, ◌∙◌, arith}
use Rattle.std.specs.Prelude.{MatchBool}
use Rattle.std.proofs.lemmas.Slice.Eq.{bytes_eq-Decides}
use Rattle.json.specs.Token.{Token}
use Rattle.json.specs.Json as json
use Rattle.json.specs.Json.{Parse, parse_map, read_key, members_step}
use Rattle.json.proofs.Grammar.{left, Takes, skip_value-shorter, read_key-shorter, value-begin_array}
use Rattle.serde_json.specs.Data.{Data, array, object, Items, Members, no_members, put}
use Rattle.serde_json.specs.Read.{converted, of_json, of_items, of_members}
use Rattle.json_list.specs.List.{items_name, values_of, IsRead, IsUnread}
use Rattle.json_list.specs.OnePass.{items_and_rest, members_in, if_ended, object_from, OthersFollow, AreTheOthers}
use Rattle.json_list.specs.Places.{IsUpToItems, HasOneList}
use Rattle.json_list.proofs.Puts.{put_in_either_order}
use Rattle.json_list.proofs.Walks.{Passed, none_passed, mapped, no_key, over, all_passed, no_value, with_value, one_more, next, list_begins}

-- ---- what was read, and what it was read from

abbrev with_tokens : {A : Type 0} → A → Option (List Token) → Option (A × List Token)
with_tokens a None = None
with_tokens a (Some ts) = Some (a, ts)

same_rest : {B : Type 0} (ts : List Token) (c : Option B) (b : B) (r : List Token) → option_map {U = B × List Token} (λ e. (e, ts)) c ≡ Some (b, r) → Some ts ≡ Some r
same_rest ts None b r e = absurd (cc)
same_rest ts (Some c) b r e = ap left e

came_from : {A B : Type 0} (f : A → Option B) (o : Option (A × List Token)) (b : B) (r : List Token) → converted f o ≡ Some (b, r) → (a : A) × (o ≡ Some (a, r))
came_from f None b r e = absurd (cc)
came_from f (Some q) b r e = (q.0, ap (with_tokens q.0) (same_rest q.1 (f q.0) b r e))

-- ---- the bound on the turns plays no part

module _ (p : Parse json.Json) (takes : Takes p) where
  no_members_in_nothing : (n : ℕ) → json.members p n [] ≡ None
  unfolding json.members
  no_members_in_nothing zero = refl
  no_members_in_nothing (suc n) = refl

  at_nothing : (n m : ℕ) (ts : List Token) → length ts ≤ 0 → json.members p n ts ≡ json.members p m ts
  at_nothing n m [] le = no_members_in_nothing n ∙ sym (no_members_in_nothing m)
  at_nothing n m (t ∷ ts) le = let never : ⊥ = omega arith in absurd never

  after_key : (n m : ℕ) (k : List ℕ) (s : List Token) (o : Option (json.Json × List Token)) → p s ≡ o → ((r : List Token) → length r < length s → json.members p n r ≡ json.members p m r)
      → option_and_then (λ q. parse_map (json.member k q.0) (json.members p n q.1)) o ≡ option_and_then (λ q. parse_map (json.member k q.0) (json.members p m q.1)) o
  after_key n m k s None is same = refl
  after_key n m k s (Some q) is same = ap (parse_map (json.member k q.0)) (same q.1 (takes s q.1 (ap left is)))

  one_turn : (n m : ℕ) (ts : List Token) (o : Option (Option (List ℕ) × List Token)) → read_key ts ≡ o → ((r : List Token) → length r < length ts → json.members p n r ≡ json.members p m r)
      → option_and_then (λ q. members_step p (json.members p n) q.0 q.1) o ≡ option_and_then (λ q. members_step p (json.members p m) q.0 q.1) o
  one_turn n m ts None is same = refl
  one_turn n m ts (Some (None, s)) is same = refl
  one_turn n m ts (Some (Some k, s)) is same = let shorter = read_key-shorter ts (Some k) s is in after_key n m k s (p s) refl (λ r less. same r (omega (arith, less, shorter)))

  any_turns : (n m : ℕ) (ts : List Token) → length ts ≤ n → length ts ≤ m → json.members p n ts ≡ json.members p m ts
  unfolding json.members
  any_turns zero m ts le also = at_nothing zero m ts le
  any_turns (suc n) zero ts le also = at_nothing (suc n) zero ts also
  any_turns (suc n) (suc m) ts le also = one_turn n m ts (read_key ts) refl (λ r less. any_turns n m r (omega arith) (omega arith))

-- ---- objects

-- what the members that were read make of those found before
abbrev pub object_by : Members → Option (json.Members × List Token) → Option Data
object_by found o = option_map object (option_and_then (λ ms. of_members ms found) (if_ended o))

text_goes_on : (found : Members) (ms : json.Members) (r : List Token) → (r ≡ [] → ⊥) → object_by found (Some (ms, r)) ≡ None
text_goes_on found ms [] more = absurd (more refl)
text_goes_on found ms (t ∷ r) more = refl

bad_with : (f : json.Members → json.Members) (found : Members) → ((ms : json.Members) → of_members (f ms) found ≡ None) → (o : Option (json.Members × List Token)) → object_by found (parse_map f o) ≡ None
bad_with f found bad None = refl
bad_with f found bad (Some (ms, [])) = ap (option_map object) (bad ms)
bad_with f found bad (Some (ms, t ∷ r)) = refl

in_place : (f : Items → Option (json.Members × List Token) → Option Data) (r : List Token) (ds : Option Items)
    → option_and_then (λ p. f p.0 (members_in r)) (option_map {U = Items × List Token} (λ ds. (ds, r)) ds) ≡ option_and_then (λ p. f p.0 (members_in p.1)) (option_map {U = Items × List Token} (λ ds. (ds, r)) ds)
in_place f r None = refl
in_place f r (Some ds) = refl

-- ---- `items`, before other members or after them

module _ (v : Data) where
  abbrev IsAside : json.Members → Members → Type 0
  IsAside ms found = of_members ms (put items_name v found) ≡ option_map (put items_name v) (of_members ms found)

  aside_with : (k : List ℕ) (o : Option Data) (ms : json.Members) (found : Members) → bytes_eq k items_name ≡ false → ((f : Members) → IsAside ms f)
      → option_and_then (λ d. of_members ms (put k d (put items_name v found))) o ≡ option_map (put items_name v) (option_and_then (λ d. of_members ms (put k d found)) o)
  aside_with k None ms found other more = refl
  aside_with k (Some d) ms found other more = ap (of_members ms) (put_in_either_order k items_name v d found other) ∙ more (put k d found)

  aside_at : (b : Bool) (k : List ℕ) (j : json.Json) (ms : json.Members) (found : Members) → bytes_eq k items_name ≡ b → cond b (j ∷ values_of items_name ms) (values_of items_name ms) ≡ []
      → (values_of items_name ms ≡ [] → (f : Members) → IsAside ms f) → IsAside (json.member k j ms) found
  aside_at true k j ms found is none more = absurd (cc)
  aside_at false k j ms found is none more = aside_with k (of_json j) ms found is (more none)

  pub items_aside : (ms : json.Members) (found : Members) → values_of items_name ms ≡ [] → of_members ms (put items_name v found) ≡ option_map (put items_name v) (of_members ms found)
  items_aside json.no_members found none = refl
  items_aside (json.member k j ms) found none = aside_at (bytes_eq k items_name) k j ms found refl none (λ e f. items_aside ms f e)

-- ---- members other than `items`

-- since `first` members other than `items` were passed, with which those at the start are these
abbrev pub Adds : Members → List Token → List Token → Members → Type 0
Adds start first ts found =
    (before : json.Members → json.Members) × Passed first ts before × ((ms : json.Members) → values_of items_name (before ms) ≡ values_of items_name ms)
    × ((ms : json.Members) → of_members (before ms) start ≡ of_members ms found)
    × ((ms : json.Members) → ((f : Members) → of_members ms f ≡ None) → (f : Members) → of_members (before ms) f ≡ None)

pub begun : (start : Members) (first : List Token) → Adds start first first start
begun start first = ((λ ms. ms), none_passed first, (λ ms. refl), (λ ms. refl), λ ms bad. bad)

module _ (start : Members) (first ts : List Token) (found : Members) (so_far : Adds start first ts found) where
  -- ---- the end

  pub the_others : (r : List Token) → read_key ts ≡ Some (None, r) → r ≡ [] → AreTheOthers start first found
  the_others r key last = λ ds.
      let all = so_far.0 json.no_members in
      ap (object_by (put items_name (array ds) start)) (over first ts so_far.0 so_far.1 r key ∙ ap (λ t. Some (all, t)) last)
      ∙ ap (option_map object) (items_aside (array ds) all start (so_far.2 json.no_members) ∙ ap (option_map (put items_name (array ds))) (so_far.3 json.no_members))

  pub refused_after : (r : List Token) → read_key ts ≡ Some (None, r) → (r ≡ [] → ⊥) → (f : Members) → object_from f first ≡ None
  refused_after r key more f = ap (object_by f) (over first ts so_far.0 so_far.1 r key) ∙ text_goes_on f (so_far.0 json.no_members) r more

  pub bad_key : read_key ts ≡ None → (f : Members) → object_from f first ≡ None
  bad_key e f = ap (object_by f) (no_key first ts so_far.0 so_far.1 e)

  pub no_list_at_all : (r : List Token) → read_key ts ≡ Some (None, r) → ¬ HasOneList first
  no_list_at_all r e has =
      let all = all_passed first ts so_far.0 so_far.1 r e has.0 [] has.1 in
      let never : [] ≡ json.array has.2.0 ∷ [] = sym (so_far.2 json.no_members) ∙ ap (values_of items_name) (sym all) ∙ has.2.1 in
      absurd (cc)

  module _ (k : List ℕ) (s : List Token) (key : read_key ts ≡ Some (Some k, s)) where
    -- ---- another member

    bad_value : (j : json.Json) → of_json j ≡ None → (ms : json.Members) (f : Members) → of_members (json.member k j ms) f ≡ None
    bad_value j e ms f = ap (option_and_then (λ d. of_members ms (put k d f))) e

    pub added : bytes_eq k items_name ≡ false → (d : Data) (r : List Token) → IsRead 126 s d r → length r < length s → Adds start first r (put k d found)
    added other d r is shorter = (
      (λ ms. so_far.0 (json.member k is.0 ms)),
      one_more first ts so_far.0 so_far.1 k s key is.0 r is.1 shorter,
      (λ ms. so_far.2 (json.member k is.0 ms) ∙ ap (λ b. cond b (is.0 ∷ values_of items_name ms) (values_of items_name ms)) other),
      (λ ms. so_far.3 (json.member k is.0 ms) ∙ ap (option_and_then (λ e. of_members ms (put k e found))) is.2),
      λ ms bad. so_far.4 (json.member k is.0 ms) (λ f. ap (option_and_then (λ e. of_members ms (put k e f))) is.2 ∙ bad (put k d f)),
    )

    bad_member_at : (o : Option (json.Json × List Token)) → json.value 126 s ≡ o → IsUnread 126 s → (f : Members) → object_from f first ≡ None
    bad_member_at None is unread f = ap (object_by f) (no_value first ts so_far.0 so_far.1 k s key is)
    bad_member_at (Some (j, r)) is unread f =
        ap (object_by f) (with_value first ts so_far.0 so_far.1 k s key j r is)
        ∙ bad_with (λ ms. so_far.0 (json.member k j ms)) f (λ ms. so_far.4 (json.member k j ms) (bad_value j (unread j r is) ms) f) _

    pub bad_member : IsUnread 126 s → (f : Members) → object_from f first ≡ None
    bad_member unread f = bad_member_at (json.value 126 s) refl unread f

    -- ---- `items`

    module _ (is_items : bytes_eq k items_name ≡ true) where
      items_value : (j : json.Json) (ms : json.Members) → values_of items_name (so_far.0 (json.member k j ms)) ≡ j ∷ values_of items_name ms
      items_value j ms = so_far.2 (json.member k j ms) ∙ ap (λ b. cond b (j ∷ values_of items_name ms) (values_of items_name ms)) is_items

      pub items_again : ¬ OthersFollow first
      items_again are =
          let it = next first ts so_far.0 so_far.1 k s key are.0 [] are.1 in
          let never : it.0 ∷ values_of items_name it.2 ≡ [] = sym (items_value it.0 it.2) ∙ ap (values_of items_name) (sym it.4) ∙ are.2 in
          absurd (cc)

      not_a_list : ((at : List Token) → s ≡ Token.begin_array ∷ at → ⊥) → ¬ HasOneList first
      not_a_list other has =
          let it = next first ts so_far.0 so_far.1 k s key has.0 [] has.1 in
          let list : it.0 ∷ values_of items_name it.2 ≡ json.array has.2.0 ∷ [] = sym (items_value it.0 it.2) ∙ ap (values_of items_name) (sym it.4) ∙ has.2.1 in
          let is : it.0 ≡ json.array has.2.0 = cc in
          let begin = list_begins 126 s it.1 has.2.0 (it.3 ∙ ap (λ i. Some (i, it.1)) is) in
          other begin.0 begin.1

      module _ (at : List Token) (begin : s ≡ Token.begin_array ∷ at) where
        value_at : json.value 126 s ≡ parse_map json.array (json.items (json.value 125) (length at) at)
        value_at = ap (json.value 126) begin ∙ value-begin_array 126 at (omega arith)

        -- the members, with the list that was read
        members_with : (js : json.Items) (r : List Token) → json.items (json.value 125) (length at) at ≡ Some (js, r)
            → members_in first ≡ parse_map (λ ms. so_far.0 (json.member k (json.array js) ms)) (members_in r)
        members_with js r e =
            let value : json.value 126 s ≡ Some (json.array js, r) = value_at ∙ ap (parse_map json.array) e in
            let passed = one_more first ts so_far.0 so_far.1 k s key (json.array js) r value (skip_value-shorter 126 s r (ap left value)) in
            passed.2 ∙ ap (parse_map (λ ms. so_far.0 (json.member k (json.array js) ms))) (any_turns (json.value 126) (skip_value-shorter 126) passed.0 (length r) r passed.1 (omega arith))

        members_of : (js : json.Items) (ds : Option Items) (ms : json.Members) → of_items js ≡ ds → of_members (so_far.0 (json.member k (json.array js) ms)) start ≡ option_and_then (λ ds. of_members ms (put items_name (array ds) found)) ds
        members_of js None ms e = so_far.3 (json.member k (json.array js) ms) ∙ ap (λ o. option_and_then (λ d. of_members ms (put k d found)) (option_map array o)) e
        members_of js (Some ds) ms e =
            so_far.3 (json.member k (json.array js) ms) ∙ ap (λ o. option_and_then (λ d. of_members ms (put k d found)) (option_map array o)) e
            ∙ ap (λ n. of_members ms (put n (array ds) found)) ((bytes_eq-Decides k items_name).0 is_items)

        object_with : (js : json.Items) (r : List Token) (ds : Option Items) → of_items js ≡ ds → (o : Option (json.Members × List Token))
            → object_by start (parse_map (λ ms. so_far.0 (json.member k (json.array js) ms)) o)
            ≡ option_and_then (λ p. object_by (put items_name (array p.0) found) o) (option_map {U = Items × List Token} (λ ds. (ds, r)) ds)
        object_with js r None e None = refl
        object_with js r None e (Some (ms, [])) = ap (option_map object) (members_of js None ms e)
        object_with js r None e (Some (ms, t ∷ l)) = refl
        object_with js r (Some ds) e None = refl
        object_with js r (Some ds) e (Some (ms, [])) = ap (option_map object) (members_of js (Some ds) ms e)
        object_with js r (Some ds) e (Some (ms, t ∷ l)) = refl

        whole_at : (o : Option (json.Items × List Token)) → json.items (json.value 125) (length at) at ≡ o
            → object_from start first ≡ option_and_then (λ p. object_from (put items_name (array p.0) found) p.1) (converted of_items o)
        whole_at None e = ap (object_by start) (no_value first ts so_far.0 so_far.1 k s key (value_at ∙ ap (parse_map json.array) e))
        whole_at (Some (js, r)) e = ap (object_by start) (members_with js r e) ∙ object_with js r (of_items js) refl (members_in r) ∙ in_place (λ ds. object_by (put items_name (array ds) found)) r (of_items js)

        others_follow : HasOneList first → (ds : Items) (r : List Token) → items_and_rest at ≡ Some (ds, r) → OthersFollow r
        others_follow has ds r e =
            let list = came_from of_items (json.items (json.value 125) (length at) at) ds r e in
            let inside = mapped (λ ms. so_far.0 (json.member k (json.array list.0) ms)) (members_in r) has.0 [] (sym (members_with list.0 r list.1) ∙ has.1) in
            let values : json.array list.0 ∷ values_of items_name inside.0 ≡ json.array has.2.0 ∷ [] = sym (items_value (json.array list.0) inside.0) ∙ ap (values_of items_name) (sym inside.2) ∙ has.2.1 in
            let none : values_of items_name inside.0 ≡ [] = cc in
            (inside.0, inside.1, none)

module _ (old ts : List Token) (found : Members) (so_far : Adds no_members old ts found) where
  pub before_or_not : (k : List ℕ) (s : List Token) → read_key ts ≡ Some (Some k, s) → bytes_eq k items_name ≡ true → (is_list : Bool) (at : List Token) → MatchBool is_list (s ≡ Token.begin_array ∷ at) ((r : List Token) → s ≡ Token.begin_array ∷ r → ⊥)
      → MatchBool is_list (IsUpToItems old found at) (¬ HasOneList old)
  before_or_not k s key is_items true at begin = (
    whole_at no_members old ts found so_far k s key is_items at begin (json.items (json.value 125) (length at) at) refl,
    others_follow no_members old ts found so_far k s key is_items at begin,
  )
  before_or_not k s key is_items false at other = not_a_list no_members old ts found so_far k s key is_items other
