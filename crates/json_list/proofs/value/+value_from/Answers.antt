use Rattle.std.proofs.Common.{◌≡◌, ◌-◌, ◌∷◌, ◌++◌, [], map, Some, None, string_bytes, refl, sym, ap, ◌∙◌, arith, rules}
use Rattle.std.proofs.lemmas.List.{map-append}
use Rattle.json.specs.Token.{Token}
use Rattle.json.specs.Reads.{token_of}
use Rattle.json.specs.Json.{after_end_array, read_key}
use Rattle.serde_json.specs.Data.{null, boolean, array, object, no_members, put}
use Rattle.serde_json.specs.View.{view, members_view, items_of}
use Rattle.serde_json.proofs.Views.{members_view-insert_entry, view-Array, view-Object}
use Rattle.json_list.specs.Lean.{lean}
use Rattle.json_list.specs.Values.{value_read}
use Rattle.json_list.proofs.Lean.{order_put, put_kept, is_put_in, lean_of}
use Rattle.json_list.proofs.Values.{items_begin, items_over, item_found, item_refused, read_shorter, some_ahead, members_begin, members_over, key_refused, member_found, member_shorter, member_refused, array_read, object_read, arrays, objects, no_array_read, no_object_read, null_read, boolean_read, number_found, number_refused, string_found, nothing_refused, begins_none, seen_null, seen_boolean, passed_over}
use Rattle.json_list.proofs.value.+value_from.Goals as goal

-- ---- items

pub items_from-returns-then-depth-eq0-clause-refused : goal.items_from-returns-then-depth-eq0-clause-refused
items_from-returns-then-depth-eq0-clause-refused g t c _ = no_array_read c.args.depth (Token.begin_array ∷ c.args.reader.now) c.args.reader.now (omega arith) refl

pub items_from-items-init : goal.items_from-items-init
items_from-items-init g t c =
    (([], items_begin (c.args.depth - 1) c.args.reader.now, ap (map view) c.new-found.ensures.items), omega arith)

pub items_from-returns-in_err-item-clause-refused : goal.items_from-returns-in_err-item-clause-refused
items_from-returns-in_err-item-clause-refused g t c refusal =
    let l = c.items in
    let old = c.args.reader.now in
    let going : (after_end_array l.reader ≡ None) × (c.take_end_array.new.self ≡ l.reader) = grind arith in
    let none = item_refused (c.args.depth - 1) old l.invariant.0.0 l.reader l.invariant.0.1 going.0 (rw (← going.1) (c.in_err-item.ensures.refused (grind arith))) in
    array_read c.args.depth (Token.begin_array ∷ old) old refl (omega arith) ∙ ap arrays none

pub items_from-items-preserved : goal.items_from-items-preserved
items_from-items-preserved g t c =
    let l = c.items in
    let ds = l.invariant.0.0 in
    let going : (after_end_array l.reader ≡ None) × (c.take_end_array.new.self ≡ l.reader) = grind arith in
    let v = c.in_ok-item.item in
    let r = c.value_from.new.reader in
    let d = c.in_ok-item.ensures.read.0 in
    let read : value_read (c.args.depth - 1) l.reader ≡ Some (d, r) = rw (← going.1) c.in_ok-item.ensures.read.1 in
    let less = read_shorter (c.args.depth - 1) l.reader d r read in
    let f = lean g.K.Kept.under c.args.kept in (
      (
        ds ++ d ∷ [],
        item_found (c.args.depth - 1) c.args.reader.now ds l.reader l.invariant.0.1 d r going.0 read,
        ap (map view) c.in_ok-push.ensures.items ∙ map-append view l.found.items (v ∷ []) ∙ ap (λ es. es ++ view v ∷ []) l.invariant.0.2 ∙ ap (λ e. map f ds ++ e ∷ []) c.in_ok-item.ensures.read.2 ∙ sym (map-append f ds (d ∷ [])),
      ),
      omega (arith, less, l.invariant.1),
    )

pub items_from-items-smaller : goal.items_from-items-smaller
items_from-items-smaller g t c =
    let l = c.items in
    let going : (after_end_array l.reader ≡ None) × (c.take_end_array.new.self ≡ l.reader) = grind arith in
    let read = c.in_ok-item.ensures.read in
    rw (← going.1) (read_shorter (c.args.depth - 1) c.take_end_array.new.self read.0 c.value_from.new.reader read.1)

pub items_from-returns-clause-read : goal.items_from-returns-clause-read
items_from-returns-clause-read g t c =
    let l = c.items in
    let ds = l.invariant.0.0 in
    let old = c.args.reader.now in
    let over : after_end_array l.reader ≡ Some c.take_end_array.new.self = grind arith in
    let read = items_over (c.args.depth - 1) old ds l.reader l.invariant.0.1 c.take_end_array.new.self over in (
      array (items_of ds),
      array_read c.args.depth (Token.begin_array ∷ old) old refl (omega arith) ∙ ap arrays read,
      view-Array l.found ∙ ap array (ap items_of l.invariant.0.2 ∙ sym (lean_of g.K.Kept.under c.args.kept ds)),
    )

-- ---- members

pub members_from-returns-then-depth-eq0-clause-refused : goal.members_from-returns-then-depth-eq0-clause-refused
members_from-returns-then-depth-eq0-clause-refused g t c _ = no_object_read c.args.depth (Token.begin_object ∷ c.args.reader.now) c.args.reader.now (omega arith) refl

pub members_from-members-init : goal.members_from-members-init
members_from-members-init g t c = ((no_members, members_begin (c.args.depth - 1) c.args.reader.now, tt, ap members_view c.new-found.ensures.empty), omega arith)

pub members_from-returns-in_err-name-clause-refused : goal.members_from-returns-in_err-name-clause-refused
members_from-returns-in_err-name-clause-refused g t c _ =
    let l = c.members in
    let old = c.args.reader.now in
    let none = key_refused (c.args.depth - 1) old l.invariant.0.0 l.reader l.invariant.0.1 c.in_err-name.ensures.value in
    object_read c.args.depth (Token.begin_object ∷ old) old refl (omega arith) ∙ ap objects none

pub members_from-returns-in_err-member_from-clause-refused : goal.members_from-returns-in_err-member_from-clause-refused
members_from-returns-in_err-member_from-clause-refused g t c refusal =
    let l = c.members in
    let old = c.args.reader.now in
    let k = c.in-Some.name.now in
    let s = c.next_key.new.self in
    let key : read_key l.reader ≡ Some (Some k, s) = grind arith in
    let none = member_refused (c.args.depth - 1) old l.invariant.0.0 l.reader l.invariant.0.1 k s key (c.in_err-member_from.ensures.refused (grind arith)) in
    object_read c.args.depth (Token.begin_object ∷ old) old refl (omega arith) ∙ ap objects none

pub members_from-members-preserved : goal.members_from-members-preserved
members_from-members-preserved g t c =
    let l = c.members in
    let ms = l.invariant.0.0 in
    let order = l.invariant.0.2 in
    let k = c.in-Some.name.now in
    let s = c.next_key.new.self in
    let r = c.member_from.new.reader in
    let read = c.in_ok-member_from.ensures.read in
    let d = read.0 in
    let key : read_key l.reader ≡ Some (Some k, s) = grind arith in
    let less = member_shorter (c.args.depth - 1) c.args.reader.now ms l.reader l.invariant.0.1 k s key d r read.1 in (
      (
        put k d ms,
        member_found (c.args.depth - 1) c.args.reader.now ms l.reader l.invariant.0.1 k s key d r read.1,
        order_put k d ms order,
        put_kept g.K.Kept.under c.args.kept k d ms (members_view l.found.entries) (members_view c.member_from.new.found.entries) order l.invariant.0.3 read.2,
      ),
      omega (arith, less, l.invariant.1),
    )

pub members_from-members-smaller : goal.members_from-members-smaller
members_from-members-smaller g t c =
    let l = c.members in
    let k = c.in-Some.name.now in
    let s = c.next_key.new.self in
    let read = c.in_ok-member_from.ensures.read in
    let key : read_key l.reader ≡ Some (Some k, s) = grind arith in
    member_shorter (c.args.depth - 1) c.args.reader.now l.invariant.0.0 l.reader l.invariant.0.1 k s key read.0 c.member_from.new.reader read.1

pub members_from-returns-clause-read : goal.members_from-returns-clause-read
members_from-returns-clause-read g t c =
    let l = c.members in
    let old = c.args.reader.now in
    let over : read_key l.reader ≡ Some (None, c.next_key.new.self) = grind arith in
    let read = members_over (c.args.depth - 1) old l.invariant.0.0 l.reader l.invariant.0.1 c.next_key.new.self over in
    (object l.invariant.0.0, object_read c.args.depth (Token.begin_object ∷ old) old refl (omega arith) ∙ ap objects read, view-Object l.found ∙ ap object l.invariant.0.3)

-- ---- one member

pub member_from-returns-in_default-clause-read : goal.member_from-returns-in_default-clause-read
member_from-returns-in_default-clause-read g t c =
    let none : g.K.Kept.under c.args.kept c.args.name.now ≡ None = sym c.under.ensures ∙ c.in_default.is in
    passed_over g.K.Kept.under c.args.kept c.args.depth c.args.reader.now c.pass_value.new.reader c.args.name.now none (members_view c.args.found.now.entries) c.pass_value.result c.pass_value.ensures.read

pub member_from-returns-clause-read : goal.member_from-returns-clause-read
member_from-returns-clause-read g t c =
    let k = c.args.name.now in
    let v = c.in_ok-value.value in
    let inner = c.in-Some.inner in
    let old = members_view c.args.found.now.entries in
    let read = c.in_ok-value.ensures.read in
    let d = read.0 in
    let is_kept : g.K.Kept.under c.args.kept k ≡ Some inner = sym c.in-Some.ensures in
    let copied : string_bytes c.in_ok-key.key ≡ k = search rules in
    let inserted : members_view c.insert.new.self.entries ≡ put k (view v) old =
    ap members_view c.in_ok-insert.ensures.entries ∙ members_view-insert_entry c.args.found.now.entries c.in_ok-key.key v ∙ ap (λ name. put name (view v) old) copied in
    (d, read.1, is_put_in g.K.Kept.under c.args.kept k d inner is_kept old (members_view c.insert.new.self.entries) (inserted ∙ ap (λ e. put k e old) read.2))

-- ---- values

pub value_from-returns-in_default-clause-refused : goal.value_from-returns-in_default-clause-refused
value_from-returns-in_default-clause-refused g t c _ =
    let none : c.args.reader.now ≡ [] = grind arith in
    nothing_refused c.args.depth c.args.reader.now none

pub value_from-returns-in-Null-clause-read : goal.value_from-returns-in-Null-clause-read
value_from-returns-in-Null-clause-read g t c =
    let new = c.next.new.self in
    let first : c.args.reader.now ≡ Token.null ∷ new = c.in-Some.ensures.value ∙ ap (λ k. token_of k ∷ new) c.in-Null.is in
    (null, null_read c.args.depth c.args.reader.now new first, seen_null)

pub value_from-returns-in-Bool-clause-read : goal.value_from-returns-in-Bool-clause-read
value_from-returns-in-Bool-clause-read g t c =
    let new = c.next.new.self in
    let b = c.in-Bool.boolean in
    let first : c.args.reader.now ≡ Token.boolean b ∷ new = c.in-Some.ensures.value ∙ ap (λ k. token_of k ∷ new) c.in-Bool.is in
    (boolean b, boolean_read c.args.depth c.args.reader.now new b first, seen_boolean b)

pub value_from-returns-in-Number-clause-read : goal.value_from-returns-in-Number-clause-read
value_from-returns-in-Number-clause-read g t c =
    let new = c.next.new.self in
    let s = c.in-Number.text.now in
    let first : c.args.reader.now ≡ Token.number s ∷ new = c.in-Some.ensures.value ∙ ap (λ k. token_of k ∷ new) c.in-Number.is in
    number_found g.K.Kept.under c.args.kept c.args.depth c.args.reader.now new s first c.number_of.result c.number_of.ensures.read

pub value_from-returns-in-Number-clause-refused : goal.value_from-returns-in-Number-clause-refused
value_from-returns-in-Number-clause-refused g t c refusal =
    let new = c.next.new.self in
    let s = c.in-Number.text.now in
    let first : c.args.reader.now ≡ Token.number s ∷ new = c.in-Some.ensures.value ∙ ap (λ k. token_of k ∷ new) c.in-Number.is in
    number_refused c.args.depth c.args.reader.now new s first (c.number_of.ensures.refused refusal)

pub value_from-returns-in-String-clause-read : goal.value_from-returns-in-String-clause-read
value_from-returns-in-String-clause-read g t c =
    let new = c.next.new.self in
    let s = c.in-String.text.now in
    let first : c.args.reader.now ≡ Token.string s ∷ new = c.in-Some.ensures.value ∙ ap (λ k. token_of k ∷ new) c.in-String.is in
    string_found g.K.Kept.under c.args.kept c.args.depth c.args.reader.now new s first c.string_of.result c.string_of.ensures.read

pub value_from-returns-in-String-clause-refused : goal.value_from-returns-in-String-clause-refused
value_from-returns-in-String-clause-refused g t c refusal = absurd (c.string_of.ensures.memory refusal)

pub value_from-returns-in-BeginArray-clause-read : goal.value_from-returns-in-BeginArray-clause-read
value_from-returns-in-BeginArray-clause-read g t c =
    let new = c.next.new.self in
    let first : c.args.reader.now ≡ Token.begin_array ∷ new = c.in-Some.ensures.value ∙ ap (λ k. token_of k ∷ new) c.in-BeginArray.is in
    rw first c.items_from.ensures.read

pub value_from-returns-in-BeginArray-clause-refused : goal.value_from-returns-in-BeginArray-clause-refused
value_from-returns-in-BeginArray-clause-refused g t c refusal =
    let new = c.next.new.self in
    let first : c.args.reader.now ≡ Token.begin_array ∷ new = c.in-Some.ensures.value ∙ ap (λ k. token_of k ∷ new) c.in-BeginArray.is in
    ap (value_read c.args.depth) first ∙ c.items_from.ensures.refused refusal

pub value_from-returns-in-BeginObject-clause-read : goal.value_from-returns-in-BeginObject-clause-read
value_from-returns-in-BeginObject-clause-read g t c =
    let new = c.next.new.self in
    let first : c.args.reader.now ≡ Token.begin_object ∷ new = c.in-Some.ensures.value ∙ ap (λ k. token_of k ∷ new) c.in-BeginObject.is in
    rw first c.members_from.ensures.read

pub value_from-returns-in-BeginObject-clause-refused : goal.value_from-returns-in-BeginObject-clause-refused
value_from-returns-in-BeginObject-clause-refused g t c refusal =
    let new = c.next.new.self in
    let first : c.args.reader.now ≡ Token.begin_object ∷ new = c.in-Some.ensures.value ∙ ap (λ k. token_of k ∷ new) c.in-BeginObject.is in
    ap (value_read c.args.depth) first ∙ c.members_from.ensures.refused refusal

pub value_from-returns-in_default-token-clause-refused : goal.value_from-returns-in_default-token-clause-refused
value_from-returns-in_default-token-clause-refused g t c _ =
    let n = c.in_default-token in
    let none = begins_none c.args.depth c.next.new.self c.in-Some.token n.not-BeginObject n.not-BeginArray n.not-String n.not-Number n.not-Bool n.not-Null in
    ap (value_read c.args.depth) c.in-Some.ensures.value ∙ none

-- ---- with no token ahead nothing was read

pub value_from-returns-in-Null-clause-none : goal.value_from-returns-in-Null-clause-none
value_from-returns-in-Null-clause-none g t c none = absurd (some_ahead c.args.reader.now _ c.next.new.self c.in-Some.ensures.value none)

pub value_from-returns-in-Bool-clause-none : goal.value_from-returns-in-Bool-clause-none
value_from-returns-in-Bool-clause-none g t c none = absurd (some_ahead c.args.reader.now _ c.next.new.self c.in-Some.ensures.value none)

pub value_from-returns-in-Number-clause-none : goal.value_from-returns-in-Number-clause-none
value_from-returns-in-Number-clause-none g t c none = absurd (some_ahead c.args.reader.now _ c.next.new.self c.in-Some.ensures.value none)

pub value_from-returns-in-String-clause-none : goal.value_from-returns-in-String-clause-none
value_from-returns-in-String-clause-none g t c none = absurd (some_ahead c.args.reader.now _ c.next.new.self c.in-Some.ensures.value none)

pub value_from-returns-in-BeginArray-clause-none : goal.value_from-returns-in-BeginArray-clause-none
value_from-returns-in-BeginArray-clause-none g t c none = absurd (some_ahead c.args.reader.now _ c.next.new.self c.in-Some.ensures.value none)

pub value_from-returns-in-BeginObject-clause-none : goal.value_from-returns-in-BeginObject-clause-none
value_from-returns-in-BeginObject-clause-none g t c none = absurd (some_ahead c.args.reader.now _ c.next.new.self c.in-Some.ensures.value none)
