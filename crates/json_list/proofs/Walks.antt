-- A walk over the members of an object: those that were passed, and those still to come.
use Rattle.std.proofs.Common.{◌≡◌, ℕ, ◌-◌, ◌<◌, ◌≤◌, List, [], ◌∷◌, length, Option, Some, None, refl, sym, ap, ◌∙◌, arith}
use Rattle.json.specs.Token.{Token}
use Rattle.json.specs.Json as json
use Rattle.json.specs.Json.{parse_map, read_key}
use Rattle.json.proofs.Grammar.{value_is, read_key-shorter, members_end, members_no_key, members_fail, members_more}
use Rattle.json_list.specs.OnePass.{members_in}

-- ---- what was read, under a function

abbrev fst_or : {A : Type 0} → A → Option (A × List Token) → A
fst_or a None = a
fst_or a (Some p) = p.0

abbrev rest_of : {A : Type 0} → Option (A × List Token) → List Token
rest_of None = []
rest_of (Some p) = p.1

pub mapped : {A B : Type 0} (f : A → B) (o : Option (A × List Token)) (b : B) (r : List Token) → parse_map f o ≡ Some (b, r) → (a : A) × (o ≡ Some (a, r)) × (b ≡ f a)
mapped f None b r e = absurd (cc)
mapped f (Some p) b r e = (p.0, ap (λ o. Some (p.0, rest_of o)) e, sym (ap (fst_or b) e))

same : {A : Type 0} (o : Option (A × List Token)) → o ≡ parse_map (λ a. a) o
same None = refl
same (Some p) = refl

twice : {A B C : Type 0} (f : B → C) (g : A → B) (o : Option (A × List Token)) → parse_map f (parse_map g o) ≡ parse_map (λ a. f (g a)) o
twice f g None = refl
twice f g (Some p) = refl

-- ---- the members that were passed

-- the members of the object are those that `before` puts ahead of the ones still to come; the number bounds the turns
abbrev pub Passed : List Token → List Token → (json.Members → json.Members) → Type 0
Passed old ts before = (n : ℕ) × (length ts ≤ n) × (members_in old ≡ parse_map before (json.members (json.value 126) n ts))

pub none_passed : (old : List Token) → Passed old old (λ ms. ms)
none_passed old = (length old, omega arith, same (members_in old))

module _ (old ts : List Token) (before : json.Members → json.Members) (so_far : Passed old ts before) where
  pub no_key : read_key ts ≡ None → members_in old ≡ None
  no_key e = so_far.2 ∙ ap (parse_map before) (members_no_key (json.value 126) so_far.0 ts e)

  pub over : (r : List Token) → read_key ts ≡ Some (None, r) → members_in old ≡ Some (before json.no_members, r)
  over r e = so_far.2 ∙ ap (parse_map before) (members_end (json.value 126) so_far.0 ts r so_far.1 e)

  pub all_passed : (r : List Token) → read_key ts ≡ Some (None, r) → (ms : json.Members) (new : List Token) → members_in old ≡ Some (ms, new) → ms ≡ before json.no_members
  all_passed r e ms new is = ap (fst_or ms) (sym is ∙ over r e)

  module _ (k : List ℕ) (s : List Token) (key : read_key ts ≡ Some (Some k, s)) where
    pub no_value : json.value 126 s ≡ None → members_in old ≡ None
    no_value e = so_far.2 ∙ ap (parse_map before) (members_fail (json.value 126) so_far.0 k ts s key e)

    pub with_value : (j : json.Json) (r : List Token) → json.value 126 s ≡ Some (j, r) → members_in old ≡ parse_map (λ ms. before (json.member k j ms)) (json.members (json.value 126) (so_far.0 - 1) r)
    with_value j r e =
        let less = read_key-shorter ts (Some k) s key in
        so_far.2 ∙ ap (parse_map before) (members_more (json.value 126) so_far.0 k ts s r j (omega (arith, so_far.1)) key e) ∙ twice before (json.member k j) _

    pub one_more : (j : json.Json) (r : List Token) → json.value 126 s ≡ Some (j, r) → length r < length s → Passed old r (λ ms. before (json.member k j ms))
    one_more j r e shorter =
        let less = read_key-shorter ts (Some k) s key in
        (so_far.0 - 1, omega (arith, so_far.1), with_value j r e)

    next_at : (o : Option (json.Json × List Token)) → json.value 126 s ≡ o → (ms : json.Members) (new : List Token) → members_in old ≡ Some (ms, new)
        → (j : json.Json) × (r : List Token) × (rest : json.Members) × (json.value 126 s ≡ Some (j, r)) × (ms ≡ before (json.member k j rest))
    next_at None is ms new e = let never = no_value is in absurd (cc)
    next_at (Some (j, r)) is ms new e = let rest = mapped (λ ms. before (json.member k j ms)) _ ms new (sym (with_value j r is) ∙ e) in (j, r, rest.0, is, rest.2)

    -- if the object is read, so is the value that comes next
    pub next : (ms : json.Members) (new : List Token) → members_in old ≡ Some (ms, new)
        → (j : json.Json) × (r : List Token) × (rest : json.Members) × (json.value 126 s ≡ Some (j, r)) × (ms ≡ before (json.member k j rest))
    next ms new e = next_at (json.value 126 s) refl ms new e

-- ---- what a value begins with

begins_list : (a : json.Parse json.Items) (o : json.Parse json.Members) (ts r : List Token) (js : json.Items) → json.value_with a o ts ≡ Some (json.array js, r) → (at : List Token) × (ts ≡ Token.begin_array ∷ at)
begins_list a o [] r js e = absurd (cc)
begins_list a o (Token.begin_object ∷ ts) r js e = let is = mapped json.object (o ts) (json.array js) r e in let never = is.2 in absurd (cc)
begins_list a o (Token.end_object ∷ ts) r js e = absurd (cc)
begins_list a o (Token.begin_array ∷ ts) r js e = (ts, refl)
begins_list a o (Token.end_array ∷ ts) r js e = absurd (cc)
begins_list a o (Token.key s ∷ ts) r js e = absurd (cc)
begins_list a o (Token.string s ∷ ts) r js e = let never = ap (fst_or json.null) e in absurd (cc)
begins_list a o (Token.number s ∷ ts) r js e = let never = ap (fst_or json.null) e in absurd (cc)
begins_list a o (Token.boolean b ∷ ts) r js e = let never = ap (fst_or json.null) e in absurd (cc)
begins_list a o (Token.null ∷ ts) r js e = let never = ap (fst_or json.null) e in absurd (cc)
begins_list a o (Token.bad ∷ ts) r js e = absurd (cc)

begins_object : (a : json.Parse json.Items) (o : json.Parse json.Members) (ts r : List Token) (ms : json.Members) → json.value_with a o ts ≡ Some (json.object ms, r) → (inside : List Token) × (ts ≡ Token.begin_object ∷ inside)
begins_object a o [] r ms e = absurd (cc)
begins_object a o (Token.begin_object ∷ ts) r ms e = (ts, refl)
begins_object a o (Token.end_object ∷ ts) r ms e = absurd (cc)
begins_object a o (Token.begin_array ∷ ts) r ms e = let is = mapped json.array (a ts) (json.object ms) r e in let never = is.2 in absurd (cc)
begins_object a o (Token.end_array ∷ ts) r ms e = absurd (cc)
begins_object a o (Token.key s ∷ ts) r ms e = absurd (cc)
begins_object a o (Token.string s ∷ ts) r ms e = let never = ap (fst_or json.null) e in absurd (cc)
begins_object a o (Token.number s ∷ ts) r ms e = let never = ap (fst_or json.null) e in absurd (cc)
begins_object a o (Token.boolean b ∷ ts) r ms e = let never = ap (fst_or json.null) e in absurd (cc)
begins_object a o (Token.null ∷ ts) r ms e = let never = ap (fst_or json.null) e in absurd (cc)
begins_object a o (Token.bad ∷ ts) r ms e = absurd (cc)

pub list_begins : (depth : ℕ) (ts r : List Token) (js : json.Items) → json.value depth ts ≡ Some (json.array js, r) → (at : List Token) × (ts ≡ Token.begin_array ∷ at)
list_begins depth ts r js e = begins_list _ _ ts r js (sym (value_is depth ts) ∙ e)

pub object_begins : (depth : ℕ) (ts r : List Token) (ms : json.Members) → json.value depth ts ≡ Some (json.object ms, r) → (inside : List Token) × (ts ≡ Token.begin_object ∷ inside)
object_begins depth ts r ms e = begins_object _ _ ts r ms (sym (value_is depth ts) ∙ e)
