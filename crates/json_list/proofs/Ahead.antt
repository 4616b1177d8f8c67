-- The items that are still to come, one after another.
use Rattle.std.proofs.Common.{◌≡◌, ℕ, zero, suc, ◌-◌, ◌<◌, ◌≤◌, List, [], ◌∷◌, length, Option, Some, None, option_map, option_and_then, refl, sym, ap, ◌∙◌, arith}
use Rattle.json.specs.Token.{Token}
use Rattle.json.specs.Json as json
use Rattle.json.specs.Json.{Parse, parse_map, after_end_array, items_step}
use Rattle.json.proofs.Grammar.{left, Takes, skip_value-shorter, items_end, items_fail, items_more}
use Rattle.serde_json.specs.Data.{Data, no_items, item}
use Rattle.serde_json.specs.Read.{converted, of_items}
use Rattle.json_list.specs.List.{IsRead, IsUnread}
use Rattle.json_list.specs.OnePass.{items_and_rest}
use Rattle.json_list.proofs.Values.{item_first, no_first}

-- ---- the bound on the turns plays no part

module _ (p : Parse json.Json) (takes : Takes p) where
  more_items : (n m : ℕ) (ts : List Token) (o : Option (json.Json × List Token)) → p ts ≡ o → ((r : List Token) → length r < length ts → json.items p n r ≡ json.items p m r)
      → option_and_then (λ q. parse_map (json.item q.0) (json.items p n q.1)) o ≡ option_and_then (λ q. parse_map (json.item q.0) (json.items p m q.1)) o
  more_items n m ts None is same = refl
  more_items n m ts (Some q) is same = ap (parse_map (json.item q.0)) (same q.1 (takes ts q.1 (ap left is)))

  one_turn : (n m : ℕ) (ts : List Token) (o : Option (List Token)) → ((r : List Token) → length r < length ts → json.items p n r ≡ json.items p m r)
      → items_step p (json.items p n) ts o ≡ items_step p (json.items p m) ts o
  one_turn n m ts None same = more_items n m ts (p ts) refl same
  one_turn n m ts (Some r) same = refl

  nothing_first : (o : Option (json.Json × List Token)) → p [] ≡ o → None ≡ o
  nothing_first None is = refl
  nothing_first (Some q) is = let never : ⊥ = omega (arith, takes [] q.1 (ap left is)) in absurd never

  no_items_in_nothing : (n : ℕ) → json.items p n [] ≡ None
  unfolding json.items
  no_items_in_nothing zero = refl
  no_items_in_nothing (suc n) = ap (option_and_then (λ q. parse_map (json.item q.0) (json.items p n q.1))) (sym (nothing_first (p []) refl))

  at_nothing : (n m : ℕ) (ts : List Token) → length ts ≤ 0 → json.items p n ts ≡ json.items p m ts
  at_nothing n m [] le = no_items_in_nothing n ∙ sym (no_items_in_nothing m)
  at_nothing n m (t ∷ ts) le = let never : ⊥ = omega arith in absurd never

  any_bound : (n m : ℕ) (ts : List Token) → length ts ≤ n → length ts ≤ m → json.items p n ts ≡ json.items p m ts
  unfolding json.items
  any_bound zero m ts le also = at_nothing zero m ts le
  any_bound (suc n) zero ts le also = at_nothing (suc n) zero ts also
  any_bound (suc n) (suc m) ts le also = one_turn n m ts (after_end_array ts) (λ r less. any_bound n m r (omega arith) (omega arith))

-- ---- the next item, or none

pub over_before : (ts r : List Token) → after_end_array ts ≡ Some r → items_and_rest ts ≡ Some (no_items, r)
over_before ts r e = ap (converted of_items) (items_end (json.value 125) (length ts) ts r (omega arith) e)

pub next_before : (ts r : List Token) (d : Data) → after_end_array ts ≡ None → IsRead 125 ts d r → length r < length ts → items_and_rest ts ≡ option_map (λ p. (item d p.0, p.1)) (items_and_rest r)
next_before ts r d going is less =
    let turn = items_more (json.value 125) (length ts) ts r is.0 (omega arith) going is.1 in
    let same = any_bound (json.value 125) (skip_value-shorter 125) (length ts - 1) (length r) r (omega arith) (omega arith) in
    ap (converted of_items) (turn ∙ ap (parse_map (json.item is.0)) same) ∙ item_first is.0 d (json.items (json.value 125) (length r) r) is.2

refused_before_at : (ts : List Token) (o : Option (json.Json × List Token)) → json.value 125 ts ≡ o → after_end_array ts ≡ None → IsUnread 125 ts → items_and_rest ts ≡ None
refused_before_at ts None is going unread = ap (converted of_items) (items_fail (json.value 125) (length ts) ts going is)
refused_before_at ts (Some (j, r)) is going unread =
    let less = skip_value-shorter 125 ts r (ap left is) in
    ap (converted of_items) (items_more (json.value 125) (length ts) ts r j (omega arith) going is) ∙ no_first j _ (unread j r is)

pub refused_before : (ts : List Token) → after_end_array ts ≡ None → IsUnread 125 ts → items_and_rest ts ≡ None
refused_before ts going unread = refused_before_at ts (json.value 125 ts) refl going unread
