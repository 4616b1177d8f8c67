-- Which users are service accounts, by the parts of their names.
use Rattle.std.proofs.Common.{◌≡◌, ◌≢◌, ◌<◌, ◌≤◌, ◌⊎◌, ◌==◌, ◌&&◌, ◌||◌, ℕ, ◌+◌, Bool, true, false, [], ◌∷◌, ◌++◌, Option, Some, None, Contains, cond, drop, take, get_or, length, inl, inr, refl, sym, ap, ◌∙◌, arith, ltb, suc, zero}
use Rattle.std.specs.Prelude.{codes, nat_eq, not}
use Rattle.std.specs.List.{list_any, position_or_len, starts_with}
use Rattle.std.proofs.lemmas.Bool.Decides.{Decides-eqb, nat_tests}
use Rattle.std.proofs.lemmas.List.{drop_all, drop_at}
use Rattle.std.proofs.lemmas.List.Sums.{passes_at_first}
use Rattle.std.proofs.lemmas.Slice.Eq.{starts_is}
use Rattle.json_fields.specs.Fields.{is_empty}
use Rattle.rbac_terms.specs.Principals.{Who, IsAccountOf, IsPart, account_user}
use Rattle.rbac_terms.specs.Text.{Text, colon}
use Rattle.rbac_terms.proofs.Accounts.{rest_of, user_is}
use Rattle.rbac_terms.proofs.Texts.{cut_at, in_rest}
use Rattle.rbac_log.specs.Acting.{account_parts, acting_as, acting_for, cut_at_colon, impersonation, is_part, parts_of}
use Rattle.rbac_log.proofs.Accounts.{the_parts}
use Rattle.rbac_log.proofs.Proper.{filled, not_empty, two_tests}

abbrev is_colon : ℕ → Bool
is_colon b = b == colon

-- ---- parts

none_equal : (t : Text) → (Contains t colon → ⊥) → list_any is_colon t ≡ false
none_equal [] none = refl
none_equal (x ∷ xs) none =
    let ne : x ≢ colon = λ e. none (0, omega arith, e) in
    let head : is_colon x ≡ false = grind (arith, nat_tests) in
    rw head (none_equal xs (λ w. none (in_rest xs x colon w)))

part : (t : Text) → IsPart t → is_part t ≡ true
part t p = two_tests (is_empty t) (list_any is_colon t) (filled t p.0) (none_equal t p.1)

neither : (b c : Bool) → (b || c) ≡ false → (b ≡ false) × (c ≡ false)
neither true c h = cc
neither false c h = (refl, h)

one_equal : (t : Text) → list_any is_colon t ≡ false → Contains t colon → ⊥
one_equal [] e w = omega (arith, w.1)
one_equal (x ∷ xs) e (zero, lt, same) =
    let head : is_colon x ≡ false = (neither (is_colon x) (list_any is_colon xs) e).0 in
    let here : x ≡ colon = same in
    let b : is_colon x ≡ true = grind (arith, nat_tests) in cc
one_equal (x ∷ xs) e (suc k, lt, same) = one_equal xs (neither (is_colon x) (list_any is_colon xs) e).1 (k, omega arith, same)

both_tests : (a b : Bool) → (not a && not b) ≡ true → (a ≡ false) × (b ≡ false)
both_tests true b h = cc
both_tests false true h = cc
both_tests false false h = (refl, refl)

part_from : (t : Text) → is_part t ≡ true → IsPart t
part_from t e =
    let tests = both_tests (is_empty t) (list_any is_colon t) e in
    (not_empty t tests.0, one_equal t tests.1)

-- ---- an account

starts : (user rest : Text) → user ≡ codes "system:serviceaccount:" ++ rest → starts_with nat_eq user (codes "system:serviceaccount:") ≡ true
starts user rest e = (starts_is Decides-eqb user (codes "system:serviceaccount:") _ refl).1 rest e

behind : (user rest : Text) → user ≡ codes "system:serviceaccount:" ++ rest → drop 22 user ≡ rest
behind user rest e = ap (drop 22) e ∙ drop_at (codes "system:serviceaccount:") rest 22 refl

behind_prefix : (user rest : Text) → user ≡ codes "system:serviceaccount:" ++ rest → account_parts user ≡ cut_at_colon rest
unfolding account_parts
behind_prefix user rest e =
    ap (λ b. cond {A = Option (Text × Text)} b (cut_at_colon (drop 22 user)) None) (starts user rest e) ∙ ap (λ t. cut_at_colon t) (behind user rest e)

two_parts : (a b : Bool) → a ≡ true → b ≡ true → (a && b) ≡ true
two_parts a b e f = rw (e, f) refl

found : (namespace name : Text) → IsPart namespace → IsPart name → parts_of namespace name ≡ Some (namespace, name)
found namespace name p q =
    let both : Option (Text × Text) = Some (namespace, name) in
    ap (λ b. cond b both None) (two_parts (is_part namespace) (is_part name) (part namespace p) (part name q))

pub account : (user : Who) (namespace name : Text) → IsPart namespace → IsPart name → acting_as user (account_user namespace name) ≡ impersonation user namespace (codes "serviceaccounts") name
unfolding acting_as
account user namespace name p q =
    ap (acting_for user (account_user namespace name))
    (behind_prefix (account_user namespace name) (rest_of namespace name) (user_is namespace name) ∙ the_parts (rest_of namespace name) namespace name (refl, p.1)
    ∙ found namespace name p q)

-- ---- any other user

below_or_not : (a b : ℕ) (t : Bool) → ltb a b ≡ t → (a < b) ⊎ (b ≤ a)
below_or_not a b true e = inl (grind (arith, nat_tests))
below_or_not a b false e = inr (grind (arith, nat_tests))

both : (x y : Bool) (found : Option (Text × Text)) → (x ≡ true → y ≡ true → ⊥) → cond (x && y) found None ≡ None
both true true found h = absurd (h refl refl)
both true false found h = refl
both false y found h = refl

not_two_parts : (rest : Text) → ((namespace name : Text) → rest ≡ namespace ++ colon ∷ name → IsPart namespace → IsPart name → ⊥) → (position_or_len is_colon rest < length rest) ⊎ (length rest ≤ position_or_len is_colon rest) → cut_at_colon rest ≡ None
unfolding cut_at_colon
not_two_parts rest none (inl lt) =
    let i = position_or_len is_colon rest in
    let hit : is_colon (get_or rest i 0) ≡ true = passes_at_first is_colon rest 0 lt in
    let byte : get_or rest i 0 ≡ colon = grind (arith, nat_tests) in
    let cut : rest ≡ take i rest ++ colon ∷ drop (i + 1) rest = cut_at rest i 0 lt ∙ ap (λ b. take i rest ++ b ∷ drop (i + 1) rest) byte in
    let found : Option (Text × Text) = Some (take i rest, drop (i + 1) rest) in
    both (is_part (take i rest)) (is_part (drop (i + 1) rest)) found (λ p q. none _ _ cut (part_from _ p) (part_from _ q))
not_two_parts rest none (inr le) =
    let end : drop (position_or_len is_colon rest + 1) rest ≡ [] = drop_all (position_or_len is_colon rest + 1) rest (omega arith) in
    let i = position_or_len is_colon rest in
    let found : Option (Text × Text) = Some (take i rest, drop (i + 1) rest) in
    both (is_part (take i rest)) (is_part (drop (i + 1) rest)) found (λ p q. (part_from _ q).0 end)

no_account : (name : Text) (b : Bool) → starts_with nat_eq name (codes "system:serviceaccount:") ≡ b → ((namespace : Text) → IsAccountOf name namespace → ⊥) → cond {A = Option (Text × Text)} b (cut_at_colon (drop 22 name)) None ≡ None
no_account name false e none = refl
no_account name true e none =
    let begins : name ≡ codes "system:serviceaccount:" ++ drop 22 name = (starts_is Decides-eqb name (codes "system:serviceaccount:") _ refl).0 e in
    let rest = drop 22 name in
    not_two_parts rest
    (λ namespace account cut p q. none namespace (account, begins ∙ ap (λ t. codes "system:serviceaccount:" ++ t) cut ∙ sym (user_is namespace account), p, q))
    (below_or_not _ _ _ refl)

pub other : (user : Who) (name : Text) → ((namespace : Text) → IsAccountOf name namespace → ⊥) → acting_as user name ≡ impersonation user [] (codes "users") name
unfolding acting_as account_parts
other user name none = ap (acting_for user name) (no_account name _ refl none)
