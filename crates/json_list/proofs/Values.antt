-- What the tokens ahead read as, a token or a turn at a time.
use Rattle.std.proofs.Common.{◌⊎◌, inl, inr, rules, Bool, Result, Ok, Err, IfOk, OnOk, ◌≡◌, ℕ, ◌-◌, ◌<◌, ◌≤◌, List, [], ◌∷◌, ◌++◌, length, Option, Some, None, option_map, option_and_then, refl, sym, ap, ◌∙◌, arith}
use Rattle.json.specs.Token.{Token}
use Rattle.json.specs.Reads.{token_of}
use Rattle.json.specs.declared.token.Token.{Token as Began}
use Rattle.json.specs.declared.token.Token.TheVariants.{BeginObject, EndObject, BeginArray, EndArray, Key, String as AText, Number, Bool as ABoolean, Null, Bad}
use Rattle.json.specs.Json as json
use Rattle.json.specs.Json.{after_end_array, read_key, parse_map}
use Rattle.json.proofs.Grammar.{left, skip_value-shorter, read_key-shorter, items_end, items_fail, items_more, members_end, members_no_key, members_fail, members_more, value_is, value-begin_array, value-begin_object}
use Rattle.serde_json.specs.Data.{Num, Data, null, boolean, number, string, array, object, Items, no_items, item, Members, no_members, put}
use Rattle.serde_json.specs.Read.{converted, number_of, of_json, of_items, of_members}
use Rattle.serde_json.specs.View.{view, items_of}
use Rattle.serde_json.specs.declared.value.Value.{Value, the_lemmas}
use Rattle.serde_json.specs.declared.value.Value.TheVariants.{Null as ANull, Bool as ABool}
use Rattle.json_list.specs.declared.fault.ReadFault.{ReadFault}
use Rattle.json_list.specs.Lean.{lean}
use Rattle.json_list.specs.Places.{IsPutIn}
use Rattle.json_list.specs.List.{IsRead, IsUnread}
use Rattle.json_list.specs.Values.{value_read, items_read, members_read}
use Rattle.json_list.proofs.Lean.{whole, is_left_out}

-- ---- what was read, and what it was read from

abbrev followed_by : {A : Type 0} → List Token → Option A → Option (A × List Token)
followed_by ts o = option_map (λ b. (b, ts)) o

abbrev data_of : Option (Data × List Token) → Option Data
data_of o = option_map (λ q. q.0) o

abbrev with_rest : json.Json → Option (List Token) → Option (json.Json × List Token)
with_rest j o = option_map (λ ts. (j, ts)) o

abbrev From : Option (json.Json × List Token) → Data → List Token → Type 0
From o d new = (j : json.Json) × (o ≡ Some (j, new)) × (of_json j ≡ Some d)

from_one : (j : json.Json) (ts : List Token) (r : Option Data) (d : Data) (new : List Token) → of_json j ≡ r → followed_by ts r ≡ Some (d, new) → From (Some (j, ts)) d new
from_one j ts None d new is e = absurd (cc)
from_one j ts (Some f) d new is e = (j, ap (with_rest j) (ap left e), is ∙ ap data_of e)

read_from : (o : Option (json.Json × List Token)) (d : Data) (new : List Token) → converted of_json o ≡ Some (d, new) → From o d new
read_from None d new e = absurd (cc)
read_from (Some q) d new e = from_one q.0 q.1 (of_json q.0) d new refl e

pub is_read : (depth : ℕ) (old : List Token) (d : Data) (new : List Token) → value_read depth old ≡ Some (d, new) → IsRead depth old d new
is_read depth old d new e = read_from (json.value depth old) d new e

-- what was read takes a token at least
pub read_shorter : (depth : ℕ) (old : List Token) (d : Data) (new : List Token) → value_read depth old ≡ Some (d, new) → length new < length old
read_shorter depth old d new e = skip_value-shorter depth old new (ap left (read_from (json.value depth old) d new e).1)

unread_from : (r : Option Data) (new : List Token) → followed_by new r ≡ None → r ≡ None
unread_from None new e = refl
unread_from (Some d) new e = absurd (cc)

pub is_unread : (depth : ℕ) (old : List Token) → value_read depth old ≡ None → IsUnread depth old
is_unread depth old e j new is = unread_from (of_json j) new (sym (ap (converted of_json) is) ∙ e)

-- ---- items

abbrev pub with_item : Data → Option (Items × List Token) → Option (Items × List Token)
with_item d o = option_map (λ q. (item d q.0, q.1)) o

with_first : (d : Data) (ts : List Token) (o : Option Items) → followed_by ts (option_map (item d) o) ≡ with_item d (followed_by ts o)
with_first d ts None = refl
with_first d ts (Some ds) = refl

pub item_first : (j : json.Json) (d : Data) (o : Option (json.Items × List Token)) → of_json j ≡ Some d → converted of_items (parse_map (json.item j) o) ≡ with_item d (converted of_items o)
item_first j d None is = refl
item_first j d (Some p) is = ap (λ r. followed_by p.1 (option_and_then (λ e. option_map (item e) (of_items p.0)) r)) is ∙ with_first d p.1 (of_items p.0)

pub no_first : (j : json.Json) (o : Option (json.Items × List Token)) → of_json j ≡ None → converted of_items (parse_map (json.item j) o) ≡ None
no_first j None is = refl
no_first j (Some p) is = ap (λ r. followed_by p.1 (option_and_then (λ e. option_map (item e) (of_items p.0)) r)) is

-- these items, and then those
abbrev before : List Data → Items → Items
before [] rest = rest
before (d ∷ ds) rest = item d (before ds rest)

before_none : (ds : List Data) → before ds no_items ≡ items_of ds
before_none [] = refl
before_none (d ∷ ds) = ap (item d) (before_none ds)

before_one : (ds : List Data) (d : Data) (rest : Items) → before ds (item d rest) ≡ before (ds ++ d ∷ []) rest
before_one [] d rest = refl
before_one (e ∷ ds) d rest = ap (item e) (before_one ds d rest)

abbrev all_with : List Data → Option (Items × List Token) → Option (Items × List Token)
all_with found o = option_map (λ q. (before found q.0, q.1)) o

all_with_none : (o : Option (Items × List Token)) → o ≡ all_with [] o
all_with_none None = refl
all_with_none (Some q) = refl

all_with_one : (found : List Data) (d : Data) (o : Option (Items × List Token)) → all_with found (with_item d o) ≡ all_with (found ++ d ∷ []) o
all_with_one found d None = refl
all_with_one found d (Some q) = ap (λ ds. Some (ds, q.1)) (before_one found d q.0)

-- what was found, and then what is ahead, is all of it
abbrev pub ItemsCome : ℕ → List Token → List Data → List Token → Type 0
ItemsCome depth first found now = (turns : ℕ) × (length now ≤ turns) × (items_read depth (length first) first ≡ all_with found (items_read depth turns now))

pub items_begin : (depth : ℕ) (first : List Token) → ItemsCome depth first [] first
items_begin depth first = (length first, omega arith, all_with_none (items_read depth (length first) first))

module _ (depth : ℕ) (first : List Token) (found : List Data) (now : List Token) (come : ItemsCome depth first found now) where
  pub items_over : (r : List Token) → after_end_array now ≡ Some r → items_read depth (length first) first ≡ Some (items_of found, r)
  items_over r e = come.2 ∙ ap (λ o. all_with found (converted of_items o)) (items_end (json.value depth) come.0 now r come.1 e) ∙ ap (λ ds. Some (ds, r)) (before_none found)

  pub item_found : (d : Data) (r : List Token) → after_end_array now ≡ None → value_read depth now ≡ Some (d, r) → ItemsCome depth first (found ++ d ∷ []) r
  item_found d r going e =
      let f = read_from (json.value depth now) d r e in
      let less = read_shorter depth now d r e in (
        come.0 - 1,
        omega (arith, come.1),
        come.2
            ∙ ap (all_with found) (ap (converted of_items) (items_more (json.value depth) come.0 now r f.0 (omega (arith, come.1)) going f.1) ∙ item_first f.0 d _ f.2)
            ∙ all_with_one found d (items_read depth (come.0 - 1) r),
      )

  no_item : (o : Option (json.Json × List Token)) → json.value depth now ≡ o → after_end_array now ≡ None → converted of_json o ≡ None → items_read depth come.0 now ≡ None
  no_item None is going e = ap (converted of_items) (items_fail (json.value depth) come.0 now going is)
  no_item (Some q) is going e =
      let less = skip_value-shorter depth now q.1 (ap left is) in
      ap (converted of_items) (items_more (json.value depth) come.0 now q.1 q.0 (omega (arith, come.1)) going is) ∙ no_first q.0 _ (unread_from (of_json q.0) q.1 e)

  pub item_refused : after_end_array now ≡ None → value_read depth now ≡ None → items_read depth (length first) first ≡ None
  item_refused going e = come.2 ∙ ap (all_with found) (no_item (json.value depth now) refl going e)

-- ---- members

member_first : (k : List ℕ) (j : json.Json) (d : Data) (found : Members) (o : Option (json.Members × List Token)) → of_json j ≡ Some d
    → converted (λ ms. of_members ms found) (parse_map (json.member k j) o) ≡ converted (λ ms. of_members ms (put k d found)) o
member_first k j d found None is = refl
member_first k j d found (Some p) is = ap (λ r. followed_by p.1 (option_and_then (λ e. of_members p.0 (put k e found)) r)) is

no_member : (k : List ℕ) (j : json.Json) (found : Members) (o : Option (json.Members × List Token)) → of_json j ≡ None → converted (λ ms. of_members ms found) (parse_map (json.member k j) o) ≡ None
no_member k j found None is = refl
no_member k j found (Some p) is = ap (λ r. followed_by p.1 (option_and_then (λ e. of_members p.0 (put k e found)) r)) is

-- the members ahead, put to those that were found, are all of them
abbrev pub MembersCome : ℕ → List Token → Members → List Token → Type 0
MembersCome depth first found now = (turns : ℕ) × (length now ≤ turns) × (members_read depth (length first) no_members first ≡ members_read depth turns found now)

pub members_begin : (depth : ℕ) (first : List Token) → MembersCome depth first no_members first
members_begin depth first = (length first, omega arith, refl)

module _ (depth : ℕ) (first : List Token) (found : Members) (now : List Token) (come : MembersCome depth first found now) where
  pub members_over : (r : List Token) → read_key now ≡ Some (None, r) → members_read depth (length first) no_members first ≡ Some (found, r)
  members_over r e = come.2 ∙ ap (converted (λ ms. of_members ms found)) (members_end (json.value depth) come.0 now r come.1 e)

  pub key_refused : read_key now ≡ None → members_read depth (length first) no_members first ≡ None
  key_refused e = come.2 ∙ ap (converted (λ ms. of_members ms found)) (members_no_key (json.value depth) come.0 now e)

  module _ (k : List ℕ) (s : List Token) (key : read_key now ≡ Some (Some k, s)) where
    pub member_found : (d : Data) (r : List Token) → value_read depth s ≡ Some (d, r) → MembersCome depth first (put k d found) r
    member_found d r e =
        let f = read_from (json.value depth s) d r e in
        let less = read_shorter depth s d r e in
        let shorter = read_key-shorter now (Some k) s key in (
          come.0 - 1,
          omega (arith, come.1),
          come.2 ∙ ap (converted (λ ms. of_members ms found)) (members_more (json.value depth) come.0 k now s r f.0 (omega (arith, come.1)) key f.1) ∙ member_first k f.0 d found _ f.2,
        )

    no_value : (o : Option (json.Json × List Token)) → json.value depth s ≡ o → converted of_json o ≡ None → members_read depth come.0 found now ≡ None
    no_value None is e = ap (converted (λ ms. of_members ms found)) (members_fail (json.value depth) come.0 k now s key is)
    no_value (Some q) is e =
        let shorter = read_key-shorter now (Some k) s key in
        ap (converted (λ ms. of_members ms found)) (members_more (json.value depth) come.0 k now s q.1 q.0 (omega (arith, come.1)) key is) ∙ no_member k q.0 found _ (unread_from (of_json q.0) q.1 e)

    pub member_shorter : (d : Data) (r : List Token) → value_read depth s ≡ Some (d, r) → length r < length now
    member_shorter d r e = omega (arith, read_shorter depth s d r e, read_key-shorter now (Some k) s key)

    pub member_refused : value_read depth s ≡ None → members_read depth (length first) no_members first ≡ None
    member_refused e = come.2 ∙ no_value (json.value depth s) refl e

-- ---- arrays and objects

abbrev pub arrays : Option (Items × List Token) → Option (Data × List Token)
arrays o = option_map (λ q. (array q.0, q.1)) o

array_of : (ts : List Token) (o : Option Items) → followed_by ts (option_map array o) ≡ arrays (followed_by ts o)
array_of ts None = refl
array_of ts (Some ds) = refl

as_array : (o : Option (json.Items × List Token)) → converted of_json (parse_map json.array o) ≡ arrays (converted of_items o)
as_array None = refl
as_array (Some p) = array_of p.1 (of_items p.0)

abbrev pub objects : Option (Members × List Token) → Option (Data × List Token)
objects o = option_map (λ q. (object q.0, q.1)) o

object_of : (ts : List Token) (o : Option Members) → followed_by ts (option_map object o) ≡ objects (followed_by ts o)
object_of ts None = refl
object_of ts (Some ms) = refl

as_object : (o : Option (json.Members × List Token)) → converted of_json (parse_map json.object o) ≡ objects (converted (λ ms. of_members ms no_members) o)
as_object None = refl
as_object (Some p) = object_of p.1 (of_members p.0 no_members)

pub array_read : (depth : ℕ) (old ts : List Token) → old ≡ Token.begin_array ∷ ts → 0 < depth → value_read depth old ≡ arrays (items_read (depth - 1) (length ts) ts)
array_read depth old ts is h = ap (value_read depth) is ∙ ap (converted of_json) (value-begin_array depth ts h) ∙ as_array (json.items (json.value (depth - 1)) (length ts) ts)

pub object_read : (depth : ℕ) (old ts : List Token) → old ≡ Token.begin_object ∷ ts → 0 < depth → value_read depth old ≡ objects (members_read (depth - 1) (length ts) no_members ts)
object_read depth old ts is h = ap (value_read depth) is ∙ ap (converted of_json) (value-begin_object depth ts h) ∙ as_object (json.members (json.value (depth - 1)) (length ts) ts)

pub seen_null : view ANull ≡ null
seen_null = search (rules, the_lemmas)

pub seen_boolean : (b : Bool) → view (ABool b) ≡ boolean b
seen_boolean b = search (rules, the_lemmas)

module _ (depth : ℕ) (old ts : List Token) where
  pub no_array_read : depth ≡ 0 → old ≡ Token.begin_array ∷ ts → value_read depth old ≡ None
  no_array_read h is = ap (λ d. value_read d old) h ∙ ap (value_read 0) is ∙ ap (converted of_json) (value_is 0 (Token.begin_array ∷ ts))

  pub no_object_read : depth ≡ 0 → old ≡ Token.begin_object ∷ ts → value_read depth old ≡ None
  no_object_read h is = ap (λ d. value_read d old) h ∙ ap (value_read 0) is ∙ ap (converted of_json) (value_is 0 (Token.begin_object ∷ ts))

  -- ---- other tokens

  pub null_read : old ≡ Token.null ∷ ts → value_read depth old ≡ Some (null, ts)
  null_read is = ap (value_read depth) is ∙ ap (converted of_json) (value_is depth (Token.null ∷ ts))

  pub boolean_read : (b : Bool) → old ≡ Token.boolean b ∷ ts → value_read depth old ≡ Some (boolean b, ts)
  boolean_read b is = ap (value_read depth) is ∙ ap (converted of_json) (value_is depth (Token.boolean b ∷ ts))

  pub string_read : (s : List ℕ) → old ≡ Token.string s ∷ ts → value_read depth old ≡ Some (string s, ts)
  string_read s is = ap (value_read depth) is ∙ ap (converted of_json) (value_is depth (Token.string s ∷ ts))

  number_read : (s : List ℕ) → old ≡ Token.number s ∷ ts → value_read depth old ≡ followed_by ts (option_map number (number_of s))
  number_read s is = ap (value_read depth) is ∙ ap (converted of_json) (value_is depth (Token.number s ∷ ts))

  pub number_is : (s : List ℕ) → old ≡ Token.number s ∷ ts → (d : Data) → option_map number (number_of s) ≡ Some d → value_read depth old ≡ Some (d, ts)
  number_is s is d e = number_read s is ∙ ap (followed_by ts) e

  pub number_refused : (s : List ℕ) → old ≡ Token.number s ∷ ts → option_map number (number_of s) ≡ None → value_read depth old ≡ None
  number_refused s is e = number_read s is ∙ ap (followed_by ts) e

pub nothing_refused : (depth : ℕ) (old : List Token) → old ≡ [] → value_read depth old ≡ None
nothing_refused depth old is = ap (value_read depth) is ∙ ap (converted of_json) (value_is depth [])

-- ---- tokens that begin no value

pub begins_none : (depth : ℕ) (ts : List Token) (t : Began) → (t ≡ BeginObject → ⊥) → (t ≡ BeginArray → ⊥) → ((s : _) → t ≡ AText s → ⊥) → ((s : _) → t ≡ Number s → ⊥) → ((b : Bool) → t ≡ ABoolean b → ⊥) → (t ≡ Null → ⊥)
    → value_read depth (token_of t ∷ ts) ≡ None
begins_none depth ts BeginObject no_object no_array no_string no_number no_boolean no_null = absurd (no_object refl)
begins_none depth ts EndObject no_object no_array no_string no_number no_boolean no_null = ap (converted of_json) (value_is depth (Token.end_object ∷ ts))
begins_none depth ts BeginArray no_object no_array no_string no_number no_boolean no_null = absurd (no_array refl)
begins_none depth ts EndArray no_object no_array no_string no_number no_boolean no_null = ap (converted of_json) (value_is depth (Token.end_array ∷ ts))
begins_none depth ts (Key s) no_object no_array no_string no_number no_boolean no_null = ap (converted of_json) (value_is depth (Token.key s.now ∷ ts))
begins_none depth ts (AText s) no_object no_array no_string no_number no_boolean no_null = absurd (no_string s refl)
begins_none depth ts (Number s) no_object no_array no_string no_number no_boolean no_null = absurd (no_number s refl)
begins_none depth ts (ABoolean b) no_object no_array no_string no_number no_boolean no_null = absurd (no_boolean b refl)
begins_none depth ts Null no_object no_array no_string no_number no_boolean no_null = absurd (no_null refl)
begins_none depth ts Bad no_object no_array no_string no_number no_boolean no_null = ap (converted of_json) (value_is depth (Token.bad ∷ ts))

-- a token that is a value
pub plain_passed : (depth : ℕ) (ts : List Token) (t : Began) → (t ≡ Null) ⊎ ((b : _) × (t ≡ ABoolean b)) ⊎ ((s : _) × (t ≡ AText s)) → (d : Data) × (value_read depth (token_of t ∷ ts) ≡ Some (d, ts))
plain_passed depth ts t (inl is) = (null, null_read depth _ ts (ap (λ k. token_of k ∷ ts) is))
plain_passed depth ts t (inr (inl (b, is))) = (boolean b, boolean_read depth _ ts b (ap (λ k. token_of k ∷ ts) is))
plain_passed depth ts t (inr (inr (s, is))) = (string s.now, string_read depth _ ts s.now (ap (λ k. token_of k ∷ ts) is))

-- ---- a number, of which nothing is left out

number_kept : {K : Type 0} (under : K → List ℕ → Option K) (kept : K) (o : Option Num) (d : Data) → option_map number o ≡ Some d → d ≡ lean under kept d
number_kept under kept None d e = absurd (cc)
number_kept under kept (Some n) d e = let is : number n ≡ d = cc in sym is ∙ ap (lean under kept) is

pub number_found : {K : Type 0} (under : K → List ℕ → Option K) (kept : K) (depth : ℕ) (old ts : List Token) (s : List ℕ) → old ≡ Token.number s ∷ ts
    → (r : Result Value ReadFault) → IfOk r (λ v. option_map number (number_of s) ≡ Some (view v)) → IfOk r (λ v. (d : Data) × (value_read depth old ≡ Some (d, ts)) × (view v ≡ lean under kept d))
number_found under kept depth old ts s is (Ok v) e = (view v, number_is depth old ts s is (view v) e, number_kept under kept (number_of s) (view v) e)
number_found under kept depth old ts s is (Err f) e = e

pub number_passed : (depth : ℕ) (old ts : List Token) (s : List ℕ) → old ≡ Token.number s ∷ ts
    → (r : Result Unit ReadFault) → IfOk r (λ _. (d : Data) × (option_map number (number_of s) ≡ Some d)) → IfOk r (λ _. (d : Data) × (value_read depth old ≡ Some (d, ts)))
number_passed depth old ts s is (Ok t) e = (e.0, number_is depth old ts s is e.0 e.1)
number_passed depth old ts s is (Err f) e = e

pub string_found : {K : Type 0} (under : K → List ℕ → Option K) (kept : K) (depth : ℕ) (old ts : List Token) (s : List ℕ) → old ≡ Token.string s ∷ ts
    → (r : Result Value ReadFault) → IfOk r (λ v. view v ≡ string s) → IfOk r (λ v. (d : Data) × (value_read depth old ≡ Some (d, ts)) × (view v ≡ lean under kept d))
string_found under kept depth old ts s is (Ok v) e = (string s, string_read depth old ts s is, e)
string_found under kept depth old ts s is (Err f) e = e

-- ---- a value of which something may be left out

pub kept_shorter : {K : Type 0} (under : K → List ℕ → Option K) (kept : K) (depth : ℕ) (old new : List Token) (r : Result Value ReadFault)
    → IfOk r (λ v. (d : Data) × (value_read depth old ≡ Some (d, new)) × (view v ≡ lean under kept d)) → OnOk r (length new < length old)
kept_shorter under kept depth old new (Ok v) e = read_shorter depth old e.0 new e.1
kept_shorter under kept depth old new (Err f) e = tt

-- tokens are ahead
pub some_ahead : (old : List Token) (t : Token) (ts : List Token) → old ≡ t ∷ ts → old ≡ [] → ⊥
some_ahead old t ts is none = let never : t ∷ ts ≡ [] = sym is ∙ none in absurd (cc)

-- ---- members

module _ {K : Type 0} (under : K → List ℕ → Option K) (kept : K) (depth : ℕ) (old new : List Token) (k : List ℕ) where
  pub passed_over : under kept k ≡ None → (ms : Members) (r : Result Unit ReadFault) → IfOk r (λ _. (d : Data) × (value_read depth old ≡ Some (d, new)))
      → IfOk r (λ _. (d : Data) × (value_read depth old ≡ Some (d, new)) × IsPutIn under kept k d ms ms)
  passed_over none ms (Ok t) e = (e.0, e.1, is_left_out under kept k e.0 none ms)
  passed_over none ms (Err f) e = e

  pub put_shorter : (ms ns : Members) (r : Result Unit ReadFault) → IfOk r (λ _. (d : Data) × (value_read depth old ≡ Some (d, new)) × IsPutIn under kept k d ms ns) → OnOk r (length new < length old)
  put_shorter ms ns (Ok t) e = read_shorter depth old e.0 new e.1
  put_shorter ms ns (Err f) e = tt

  pub member_put : ((name : List ℕ) → under kept name ≡ Some kept) → (ms ns : Members) (r : Result Unit ReadFault) → IfOk r (λ _. (d : Data) × (value_read depth old ≡ Some (d, new)) × IsPutIn under kept k d ms ns)
      → IfOk r (λ _. (d : Data) × IsRead depth old d new × (ns ≡ put k d ms))
  member_put all ms ns (Ok t) e = (e.0, is_read depth old e.0 new e.1, (rw (all k) at e.2) ∙ ap (λ f. put k f ms) (whole under kept all e.0))
  member_put all ms ns (Err f) e = e
