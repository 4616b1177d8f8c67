-- whom a permission is for, and who stands in for them
use Rattle.std.proofs.Common.{◌≡◌, ◌≢◌, ℕ, ◌⊎◌, List, [], ◌∷◌, get_or, Contains, Any, inl, inr, sym, ap, refl, subst, arith, zero, suc}
use Rattle.std.specs.Prelude.{Option, Some, None, codes}
use Rattle.std.specs.Str.{bytes_eq}
use Rattle.std.proofs.lemmas.Bool.{cond_both, both_ways}
use Rattle.std.proofs.lemmas.Option.{same_Some}
use Rattle.std.proofs.lemmas.Slice.Eq.{bytes_eq-Decides}
use Rattle.rbac_terms.specs.Text.{Text}
use Rattle.rbac_terms.specs.Principals.{Who, AsUser, AsMember, IsInGroup, IsAccountOf, account_user}
use Rattle.rbac_terms.specs.Granting.{Names, subject_principal}
use Rattle.rbac_terms.specs.declared.granting.Binding.{Binding}
use Rattle.rbac_terms.specs.declared.granting.Subject.{Subject}
use Rattle.rbac_terms.specs.declared.granting.Subject.TheVariants.{User, Group, Account}
use Rattle.rbac_terms.proofs.Accounts.{IsAccountOf-begins}
use Rattle.rbac_model.specs.Policies.{BindingNames}
use Rattle.rbac_model.proofs.OwnWords.{any_weaker}
use Rattle.rbac_model.proofs.Decided.{same_text}
use Rattle.rbac_diff.specs.Requests.{IsUser, IsFor}
use Rattle.rbac_diff.specs.Covering.{stand_ins}

abbrev pub anonymous : Text
anonymous = codes "system:anonymous"

abbrev pub unauthenticated : Text
unauthenticated = codes "system:unauthenticated"

abbrev pub authenticated : Text
authenticated = codes "system:authenticated"

-- ---- lists of one and two

pub any_first : {X : Type 0} (P : X → Type 0) (x : X) (xs : List X) → P x → Any P (x ∷ xs)
any_first P x xs p = (0, x, omega arith, refl, p)

pub any_second : {X : Type 0} (P : X → Type 0) (x y : X) → P y → Any P (x ∷ y ∷ [])
any_second P x y p = (1, y, omega arith, refl, p)

split : {X : Type 0} (P : X → Type 0) (x : X) (xs : List X) → Any P (x ∷ xs) → P x ⊎ Any P xs
split P x xs (zero, y, l, at, h) = inl (subst P (sym at) h)
split P x xs (suc k, y, l, at, h) = inr (k, y, omega arith, at, h)

none_in : {X : Type 0} (P : X → Type 0) → Any P [] → ⊥
none_in P a = omega (arith, a.2)

any_one : {X : Type 0} (P : X → Type 0) (x : X) → Any P (x ∷ []) → P x
any_one P x a = elim (split P x [] a) [ inl p ↦ p | inr n ↦ absurd (none_in P n) ]

pub nothing_in : {X : Type 0} (x : X) → Contains [] x → ⊥
nothing_in x w = omega (arith, w.1)

pub only_in : {X : Type 0} (x y : X) → Contains (x ∷ []) y → x ≡ y
only_in x y (zero, l, at) = at
only_in x y (suc k, l, at) = absurd (omega (arith, l))

-- ---- texts that differ by a byte

abbrev pub byte : ℕ → Text → ℕ
byte k t = get_or t k 0

pub not_account : (namespace : Text) → IsAccountOf anonymous namespace → ⊥
not_account namespace a = let b = IsAccountOf-begins anonymous namespace a in let e : 97 ≡ 115 = ap (byte 7) b.1 in omega (arith, e)

-- ---- who a binding names

in_more : (name group : Text) (given : List Text) → (Contains given unauthenticated → ⊥) → IsInGroup (AsUser name []) group → IsInGroup (AsUser name given) group
in_more name group given none (inl w) = absurd (nothing_in group w)
in_more name group given none (inr (inl a)) = inr (inl a)
in_more name group given none (inr (inr (inl a))) = inr (inr (inl a))
in_more name group given none (inr (inr (inr a))) = inr (inr (inr (a.0, none, a.2)))

-- a subject that names a user without given groups names that user, whatever groups it is given
names_more : (own : Option Text) (name : Text) (given : List Text) → (Contains given unauthenticated → ⊥) → (s : Subject) → Names s own (AsUser name []) → Names s own (AsUser name given)
names_more own name given none (User n) h = h
names_more own name given none (Group n) h = in_more name n given none h
names_more own name given none (Account (Some m) n) h = h
names_more (Some m) name given none (Account None n) h = h
names_more None name given none (Account None n) h = h

-- and one that names a member of a group names everybody in the group
names_member : (own : Option Text) (group : Text) (who : Who) → IsInGroup who group → (s : Subject) → Names s own (AsMember group) → Names s own who
names_member own group who is (User n) h = absurd h
names_member own group who is (Group n) h = subst (IsInGroup who) (sym h) is
names_member own group who is (Account (Some m) n) h = absurd h
names_member (Some m) group who is (Account None n) h = absurd h
names_member None group who is (Account None n) h = absurd h

-- the anonymous user alone hasn't signed in
anonymous_only : (user : Text) (given : List Text) → IsUser (AsUser user given) → IsInGroup (AsUser user given) unauthenticated → user ≡ anonymous
anonymous_only user given is (inl w) = absurd (is.2 w)
anonymous_only user given is (inr (inl (namespace, a, inl e))) = let b : 117 ≡ 115 = ap (byte 7) e in absurd (omega (arith, b))
anonymous_only user given is (inr (inl (namespace, a, inr e))) = let b : 117 ≡ 115 = ap (byte 7) e in absurd (omega (arith, b))
anonymous_only user given is (inr (inr (inl a))) = a.0
anonymous_only user given is (inr (inr (inr a))) = let b : 117 ≡ 97 = ap (byte 7) a.2 in absurd (omega (arith, b))

anonymous_in : (given : List Text) (group : Text) → given ≡ [] → IsInGroup (AsUser anonymous given) group → group ≡ unauthenticated
anonymous_in given group none (inl w) = absurd (nothing_in group (subst (λ (l : List Text). Contains l group) none w))
anonymous_in given group none (inr (inl a)) = absurd (not_account a.0 a.1)
anonymous_in given group none (inr (inr (inl a))) = a.1
anonymous_in given group none (inr (inr (inr a))) = absurd (a.0 refl)

-- any other member of a group has signed in
signed_in : (user group : Text) (given : List Text) → IsUser (AsUser user given) → (group ≡ unauthenticated → ⊥) → IsInGroup (AsUser user given) group → IsInGroup (AsUser user given) authenticated
signed_in user group given is ne member = elim (same_text user anonymous) [
  | inl e ↦ absurd (ne (anonymous_in given group (is.3 e) (subst (λ (n : Text). IsInGroup (AsUser n given) group) e member)))
  | inr other ↦ inr (inr (inr (other, is.2, refl)))
]

module _ (b : Binding) where
  named_as : (f : Who) (who : Who) → ((s : Subject) → Names s b.namespace f → Names s b.namespace who) → BindingNames b f → BindingNames b who
  named_as f who more = any_weaker (λ s. Names s b.namespace f) (λ s. Names s b.namespace who) b.subjects more

  names_user : (name user : Text) (given : List Text) → IsUser (AsUser user given) → user ≡ name → BindingNames b (AsUser name []) → BindingNames b (AsUser user given)
  names_user name user given is e h =
      named_as (AsUser user []) (AsUser user given) (names_more b.namespace user given is.2) (subst (λ (n : Text). BindingNames b (AsUser n [])) (sym e) h)

  names_anonymous : (user : Text) (given : List Text) → IsUser (AsUser user given) → IsInGroup (AsUser user given) unauthenticated → BindingNames b (AsUser anonymous []) → BindingNames b (AsUser user given)
  names_anonymous user given is member h = names_user anonymous user given is (anonymous_only user given is member) h

  names_group : (group user : Text) (given : List Text) → IsUser (AsUser user given) → IsInGroup (AsUser user given) group → Any (BindingNames b) (stand_ins (AsMember group)) → BindingNames b (AsUser user given)
  names_group group user given is member =
      let who = AsUser user given in
      let same = bytes_eq-Decides group unauthenticated in
      cond_both (bytes_eq group unauthenticated) (AsUser anonymous [] ∷ []) (AsMember group ∷ AsMember authenticated ∷ []) (λ (l : List Who). Any (BindingNames b) l → BindingNames b who)
      (λ t h. names_anonymous user given is (subst (IsInGroup who) (same.0 t) member) (any_one (BindingNames b) (AsUser anonymous []) h))
      (λ f h. elim (split (BindingNames b) (AsMember group) (AsMember authenticated ∷ []) h) [
        | inl n ↦ named_as (AsMember group) who (names_member b.namespace group who member) n
        | inr n ↦
            let all = signed_in user group given is (λ e. both_ways (bytes_eq group unauthenticated) f (same.1 e)) member in
            named_as (AsMember authenticated) who (names_member b.namespace authenticated who all) (any_one (BindingNames b) (AsMember authenticated) n)
      ])

  -- a binding that names a stand-in names everybody for whom it stands in
  pub names_all : (principal who : Who) → IsUser who → IsFor principal who → Any (BindingNames b) (stand_ins principal) → BindingNames b who
  names_all (AsUser name given) (AsUser user groups) is for_it h = names_user name user groups is for_it (any_one (BindingNames b) (AsUser name []) h)
  names_all (AsMember group) (AsUser user groups) is for_it h = names_group group user groups is for_it h
  names_all principal (AsMember group) is for_it h = absurd is

-- ---- the principals of subjects

-- a principal of a subject: a user that has a name and no given groups, or a member of a group that has a name
abbrev pub IsOwn : Who → Type 0
IsOwn (AsUser name given) = (name ≢ []) × (given ≡ [])
IsOwn (AsMember group) = group ≢ []

account_name : (namespace name : Text) → account_user namespace name ≢ []
account_name namespace name e = let b : 115 ≡ 0 = ap (byte 0) e in omega (arith, b)

pub own_principal : (own : Option Text) (s : Subject) (who : Who) → subject_principal own s ≡ Some who → IsOwn who
own_principal own (User []) who e = absurd (cc)
own_principal own (User (c ∷ name)) who e = subst IsOwn (same_Some (AsUser (c ∷ name) []) who e) (λ n. cc, refl)
own_principal own (Group []) who e = absurd (cc)
own_principal own (Group (c ∷ name)) who e = subst IsOwn (same_Some (AsMember (c ∷ name)) who e) (λ n. cc)
own_principal own (Account (Some m) n) who e = subst IsOwn (same_Some (AsUser (account_user m n) []) who e) (account_name m n, refl)
own_principal (Some m) (Account None n) who e = subst IsOwn (same_Some (AsUser (account_user m n) []) who e) (account_name m n, refl)
own_principal None (Account None n) who e = absurd (cc)

-- a subject names one who stands in for its principal
abbrev NamesOne : Option Text → Subject → Who → Type 0
NamesOne own s who = Any (Names s own) (stand_ins who)

group_named : (own : Option Text) (group : Text) → NamesOne own (Group group) (AsMember group)
group_named own group =
    let P : Who → Type 0 = Names (Group group) own in
    cond_both (bytes_eq group unauthenticated) (AsUser anonymous [] ∷ []) (AsMember group ∷ AsMember authenticated ∷ []) (λ (l : List Who). Any P l)
    (λ t. any_first P (AsUser anonymous []) [] (inr (inr (inl (refl, (bytes_eq-Decides group unauthenticated).0 t)))))
    (λ f. any_first P (AsMember group) (AsMember authenticated ∷ []) refl)

user_named : (own : Option Text) (s : Subject) (name : Text) → Names s own (AsUser name []) → NamesOne own s (AsUser name [])
user_named own s name h = any_first (Names s own) (AsUser name []) [] h

names_one : (own : Option Text) (s : Subject) (who : Who) → subject_principal own s ≡ Some who → NamesOne own s who
names_one own (User []) who e = absurd (cc)
names_one own (User (c ∷ name)) who e = subst (NamesOne own (User (c ∷ name))) (same_Some (AsUser (c ∷ name) []) who e) (user_named own (User (c ∷ name)) (c ∷ name) refl)
names_one own (Group []) who e = absurd (cc)
names_one own (Group (c ∷ name)) who e = subst (NamesOne own (Group (c ∷ name))) (same_Some (AsMember (c ∷ name)) who e) (group_named own (c ∷ name))
names_one own (Account (Some m) n) who e = subst (NamesOne own (Account (Some m) n)) (same_Some (AsUser (account_user m n) []) who e) (user_named own (Account (Some m) n) (account_user m n) refl)
names_one (Some m) (Account None n) who e = subst (NamesOne (Some m) (Account None n)) (same_Some (AsUser (account_user m n) []) who e) (user_named (Some m) (Account None n) (account_user m n) refl)
names_one None (Account None n) who e = absurd (cc)

pub named_by_own : (own : Option Text) (subjects : List Subject) (who : Who) → Any (λ s. subject_principal own s ≡ Some who) subjects → Any (λ w. Any (λ s. Names s own w) subjects) (stand_ins who)
named_by_own own subjects who a =
    any_weaker (Names a.1 own) (λ w. Any (λ s. Names s own w) subjects) (stand_ins who) (λ w h. (a.0, a.1, a.2, a.3, h)) (names_one own a.1 who a.4)

-- nobody is in a group without a name
no_empty_group : (user : Text) (given : List Text) → IsUser (AsUser user given) → IsInGroup (AsUser user given) [] → ⊥
no_empty_group user given is (inl w) = is.1 w
no_empty_group user given is (inr (inl (namespace, a, inl e))) = let b : 0 ≡ 115 = ap (byte 0) e in omega (arith, b)
no_empty_group user given is (inr (inl (namespace, a, inr e))) = let b : 0 ≡ 115 = ap (byte 0) e in omega (arith, b)
no_empty_group user given is (inr (inr (inl a))) = let b : 0 ≡ 115 = ap (byte 0) a.1 in omega (arith, b)
no_empty_group user given is (inr (inr (inr a))) = let b : 0 ≡ 115 = ap (byte 0) a.2 in omega (arith, b)

-- whom a subject names, its principal is for
pub principal_named : (own : Option Text) (s : Subject) (user : Text) (given : List Text) → IsUser (AsUser user given) → Names s own (AsUser user given) → (who : Who) × (subject_principal own s ≡ Some who) × IsFor who (AsUser user given)
principal_named own (User []) user given is h = absurd (is.0 h)
principal_named own (User (c ∷ name)) user given is h = (AsUser (c ∷ name) [], refl, h)
principal_named own (Group []) user given is h = absurd (no_empty_group user given is h)
principal_named own (Group (c ∷ name)) user given is h = (AsMember (c ∷ name), refl, h)
principal_named own (Account (Some m) n) user given is h = (AsUser (account_user m n) [], refl, h)
principal_named (Some m) (Account None n) user given is h = (AsUser (account_user m n) [], refl, h)
principal_named None (Account None n) user given is h = absurd h
