use Rattle.std.proofs.Common.{◌≡◌, ◌-◌, ◌∷◌, ◌++◌, [], Some, None, refl, ap, ◌∙◌, arith}
use Rattle.json.specs.Token.{Token}
use Rattle.json.specs.Reads.{token_of}
use Rattle.json.specs.Json.{after_end_array, read_key}
use Rattle.serde_json.specs.Data.{array, object, no_members, put}
use Rattle.serde_json.specs.View.{items_of}
use Rattle.json_list.specs.Values.{value_read}
use Rattle.json_list.proofs.Values.{items_over, item_found, item_refused, read_shorter, members_begin, members_over, key_refused, member_found, member_shorter, member_refused, array_read, object_read, arrays, objects, no_array_read, no_object_read, plain_passed, number_passed, number_refused, nothing_refused, begins_none}
use Rattle.json_list.proofs.pass.+pass_value.Goals as goal

-- ---- items

pub pass_items-returns-then-depth-eq0-clause-refused : goal.pass_items-returns-then-depth-eq0-clause-refused
pass_items-returns-then-depth-eq0-clause-refused t c _ = no_array_read c.args.depth (Token.begin_array ∷ c.args.reader.now) c.args.reader.now (omega arith) refl

pub pass_items-items-preserved : goal.pass_items-items-preserved
pass_items-items-preserved t c =
    let l = c.items in
    let ds = l.invariant.0.0 in
    let going : (after_end_array l.reader ≡ None) × (c.take_end_array.new.self ≡ l.reader) = grind arith in
    let r = c.pass_value.new.reader in
    let d = c.in_ok-pass_value.ensures.read.0 in
    let read : value_read (c.args.depth - 1) l.reader ≡ Some (d, r) = rw (← going.1) c.in_ok-pass_value.ensures.read.1 in
    let less = read_shorter (c.args.depth - 1) l.reader d r read in (
      (ds ++ d ∷ [], item_found (c.args.depth - 1) c.args.reader.now ds l.reader l.invariant.0.1 d r going.0 read),
      omega (arith, less, l.invariant.1),
    )

pub pass_items-returns-in_err-pass_value-clause-refused : goal.pass_items-returns-in_err-pass_value-clause-refused
pass_items-returns-in_err-pass_value-clause-refused t c refusal =
    let l = c.items in
    let old = c.args.reader.now in
    let going : (after_end_array l.reader ≡ None) × (c.take_end_array.new.self ≡ l.reader) = grind arith in
    let none = item_refused (c.args.depth - 1) old l.invariant.0.0 l.reader l.invariant.0.1 going.0 (rw (← going.1) (c.in_err-pass_value.ensures.refused (grind arith))) in
    array_read c.args.depth (Token.begin_array ∷ old) old refl (omega arith) ∙ ap arrays none

pub pass_items-items-smaller : goal.pass_items-items-smaller
pass_items-items-smaller t c =
    let l = c.items in
    let going : (after_end_array l.reader ≡ None) × (c.take_end_array.new.self ≡ l.reader) = grind arith in
    let read = c.in_ok-pass_value.ensures.read in
    rw (← going.1) (read_shorter (c.args.depth - 1) c.take_end_array.new.self read.0 c.pass_value.new.reader read.1)

pub pass_items-returns-clause-read : goal.pass_items-returns-clause-read
pass_items-returns-clause-read t c =
    let l = c.items in
    let ds = l.invariant.0.0 in
    let over : after_end_array l.reader ≡ Some c.take_end_array.new.self = grind arith in
    let read = items_over (c.args.depth - 1) c.args.reader.now ds l.reader l.invariant.0.1 c.take_end_array.new.self over in
    (array (items_of ds), array_read c.args.depth (Token.begin_array ∷ c.args.reader.now) c.args.reader.now refl (omega arith) ∙ ap arrays read)

-- ---- members

pub pass_members-returns-then-depth-eq0-clause-refused : goal.pass_members-returns-then-depth-eq0-clause-refused
pass_members-returns-then-depth-eq0-clause-refused t c _ = no_object_read c.args.depth (Token.begin_object ∷ c.args.reader.now) c.args.reader.now (omega arith) refl

pub pass_members-members-init : goal.pass_members-members-init
pass_members-members-init t c = ((no_members, members_begin (c.args.depth - 1) c.args.reader.now), omega arith)

pub pass_members-returns-in_err-next_key-clause-refused : goal.pass_members-returns-in_err-next_key-clause-refused
pass_members-returns-in_err-next_key-clause-refused t c _ =
    let l = c.members in
    let old = c.args.reader.now in
    let none = key_refused (c.args.depth - 1) old l.invariant.0.0 l.reader l.invariant.0.1 c.in_err-next_key.ensures.value in
    object_read c.args.depth (Token.begin_object ∷ old) old refl (omega arith) ∙ ap objects none

pub pass_members-members-preserved : goal.pass_members-members-preserved
pass_members-members-preserved t c =
    let l = c.members in
    let ms = l.invariant.0.0 in
    let k = c.in-Some.field-0.now in
    let s = c.next_key.new.self in
    let r = c.pass_value.new.reader in
    let read = c.in_ok-pass_value.ensures.read in
    let key : read_key l.reader ≡ Some (Some k, s) = grind arith in
    let less = member_shorter (c.args.depth - 1) c.args.reader.now ms l.reader l.invariant.0.1 k s key read.0 r read.1 in (
      (put k read.0 ms, member_found (c.args.depth - 1) c.args.reader.now ms l.reader l.invariant.0.1 k s key read.0 r read.1),
      omega (arith, less, l.invariant.1),
    )

pub pass_members-returns-in_err-pass_value-clause-refused : goal.pass_members-returns-in_err-pass_value-clause-refused
pass_members-returns-in_err-pass_value-clause-refused t c refusal =
    let l = c.members in
    let k = c.in-Some.field-0.now in
    let s = c.next_key.new.self in
    let key : read_key l.reader ≡ Some (Some k, s) = grind arith in
    let old = c.args.reader.now in
    let none = member_refused (c.args.depth - 1) old l.invariant.0.0 l.reader l.invariant.0.1 k s key (c.in_err-pass_value.ensures.refused (grind arith)) in
    object_read c.args.depth (Token.begin_object ∷ old) old refl (omega arith) ∙ ap objects none

pub pass_members-members-smaller : goal.pass_members-members-smaller
pass_members-members-smaller t c =
    let l = c.members in
    let k = c.in-Some.field-0.now in
    let s = c.next_key.new.self in
    let read = c.in_ok-pass_value.ensures.read in
    let key : read_key l.reader ≡ Some (Some k, s) = grind arith in
    member_shorter (c.args.depth - 1) c.args.reader.now l.invariant.0.0 l.reader l.invariant.0.1 k s key read.0 c.pass_value.new.reader read.1

pub pass_members-returns-clause-read : goal.pass_members-returns-clause-read
pass_members-returns-clause-read t c =
    let l = c.members in
    let over : read_key l.reader ≡ Some (None, c.next_key.new.self) = grind arith in
    let read = members_over (c.args.depth - 1) c.args.reader.now l.invariant.0.0 l.reader l.invariant.0.1 c.next_key.new.self over in
    (object l.invariant.0.0, object_read c.args.depth (Token.begin_object ∷ c.args.reader.now) c.args.reader.now refl (omega arith) ∙ ap objects read)

-- ---- values

pub pass_value-returns-in_default-clause-refused : goal.pass_value-returns-in_default-clause-refused
pass_value-returns-in_default-clause-refused t c _ =
    let none : c.args.reader.now ≡ [] = grind arith in
    nothing_refused c.args.depth c.args.reader.now none

pub pass_value-returns-in-Null-clause-read : goal.pass_value-returns-in-Null-clause-read
pass_value-returns-in-Null-clause-read t c =
    let passed = plain_passed c.args.depth c.next.new.self c.in-Some.token c.in-Null.is in
    (passed.0, ap (value_read c.args.depth) c.in-Some.ensures.value ∙ passed.1)

pub pass_value-returns-in-Number-clause-read : goal.pass_value-returns-in-Number-clause-read
pass_value-returns-in-Number-clause-read t c =
    let new = c.next.new.self in
    let s = c.in-Number.text.now in
    let first : c.args.reader.now ≡ Token.number s ∷ new = c.in-Some.ensures.value ∙ ap (λ k. token_of k ∷ new) c.in-Number.is in
    number_passed c.args.depth c.args.reader.now new s first c.pass_number.result c.pass_number.ensures.read

pub pass_value-returns-in-Number-clause-refused : goal.pass_value-returns-in-Number-clause-refused
pass_value-returns-in-Number-clause-refused t c refusal =
    let new = c.next.new.self in
    let s = c.in-Number.text.now in
    let first : c.args.reader.now ≡ Token.number s ∷ new = c.in-Some.ensures.value ∙ ap (λ k. token_of k ∷ new) c.in-Number.is in
    number_refused c.args.depth c.args.reader.now new s first (c.pass_number.ensures.refused refusal)

pub pass_value-returns-in-BeginArray-clause-read : goal.pass_value-returns-in-BeginArray-clause-read
pass_value-returns-in-BeginArray-clause-read t c =
    let new = c.next.new.self in
    let first : c.args.reader.now ≡ Token.begin_array ∷ new = c.in-Some.ensures.value ∙ ap (λ k. token_of k ∷ new) c.in-BeginArray.is in
    rw first c.pass_items.ensures.read

pub pass_value-returns-in-BeginArray-clause-refused : goal.pass_value-returns-in-BeginArray-clause-refused
pass_value-returns-in-BeginArray-clause-refused t c refusal =
    let new = c.next.new.self in
    let first : c.args.reader.now ≡ Token.begin_array ∷ new = c.in-Some.ensures.value ∙ ap (λ k. token_of k ∷ new) c.in-BeginArray.is in
    ap (value_read c.args.depth) first ∙ c.pass_items.ensures.refused refusal

pub pass_value-returns-in-BeginObject-clause-read : goal.pass_value-returns-in-BeginObject-clause-read
pass_value-returns-in-BeginObject-clause-read t c =
    let new = c.next.new.self in
    let first : c.args.reader.now ≡ Token.begin_object ∷ new = c.in-Some.ensures.value ∙ ap (λ k. token_of k ∷ new) c.in-BeginObject.is in
    rw first c.pass_members.ensures.read

pub pass_value-returns-in-BeginObject-clause-refused : goal.pass_value-returns-in-BeginObject-clause-refused
pass_value-returns-in-BeginObject-clause-refused t c refusal =
    let new = c.next.new.self in
    let first : c.args.reader.now ≡ Token.begin_object ∷ new = c.in-Some.ensures.value ∙ ap (λ k. token_of k ∷ new) c.in-BeginObject.is in
    ap (value_read c.args.depth) first ∙ c.pass_members.ensures.refused refusal

pub pass_value-returns-in_default-token-clause-refused : goal.pass_value-returns-in_default-token-clause-refused
pass_value-returns-in_default-token-clause-refused t c _ =
    let n = c.in_default-token in
    let none = begins_none c.args.depth c.next.new.self c.in-Some.token n.not-BeginObject n.not-BeginArray n.not-String n.not-Number n.not-Bool n.not-Null in
    ap (value_read c.args.depth) c.in-Some.ensures.value ∙ none
