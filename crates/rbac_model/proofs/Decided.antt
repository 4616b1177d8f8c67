-- Whether a request is allowed is decided, one way or the other; and so is what that is made of.
use Rattle.std.proofs.Common.{◌≡◌, ◌≢◌, ℕ, ◌+◌, ◌<◌, List, [], ◌∷◌, ◌++◌, length, get_or, Contains, replicate, sym, ap, ap₂, ◌∙◌, refl, arith, append-nil, subst, suc, zero, add-one, ◌⊎◌, inl, inr, Bool, true, false, IsTrue}
use Rattle.std.specs.Prelude.{Option, Some, None, Any, Decides, codes}
use Rattle.std.specs.Str.{bytes_eq}
use Rattle.std.proofs.lemmas.Bool.{cases_eq, both_ways}
use Rattle.std.proofs.lemmas.List.{get_or_default}
use Rattle.std.proofs.lemmas.Slice.Eq.{bytes_eq-Decides}
use Rattle.rbac_terms.specs.Text.{Text, star, slash, colon, IsCutAtFirst, BeginsWith}
use Rattle.rbac_terms.specs.Targets.{What, Resource, Url}
use Rattle.rbac_terms.specs.Principals.{Who, AsUser, AsMember, IsUserNamed, IsInGroup, IsPart, IsAccountOf, IsAccountGroup, IsGroupOfAccounts, IsSignInGroup, account_user}
use Rattle.rbac_terms.specs.Granting.{Names}
use Rattle.rbac_terms.specs.Matching.{WordMatches, ResourceWordMatches, FollowsFirstSlash, UrlWordMatches, EndsInStar, TargetOk, RuleAllows}
use Rattle.rbac_terms.specs.declared.matching.Rule.{Rule}
use Rattle.rbac_terms.specs.declared.granting.Subject.{Subject}
use Rattle.rbac_terms.specs.declared.granting.Subject.TheVariants.{User, Group, Account}
use Rattle.rbac_terms.proofs.Texts.{IsCutAtFirst-one, IsCutAtFirst-contains, same_prefix, UrlWordMatches-none}
use Rattle.rbac_terms.proofs.Accounts.{IsAccountOf-begins, IsAccountOf-colon, IsAccountOf-from, IsAccountOf-parts, IsAccountOf-one}
use Rattle.rbac_model.specs.Lists.{IsFirstAt}
use Rattle.rbac_model.specs.Policies.{PolicyView, IsPolicy, GrantView, Live, GrantAllows, Allows}
use Rattle.rbac_model.proofs.GrantNumbers.{some_grant, grant_allows, none_earlier}
use Rattle.rbac_model.proofs.OwnWords.{any_from}
use Rattle.rbac_model.proofs.UrlSamples.{unstarred}

-- it holds, or it doesn't
abbrev pub Decided : Type 0 → Type 0
Decided P = P ⊎ (¬ P)

-- ---- what is made of decided parts

pub both : {P Q : Type 0} → Decided P → Decided Q → Decided (P × Q)
both (inl p) (inl q) = inl (p, q)
both (inl p) (inr q) = inr (λ w. q w.1)
both (inr p) q = inr (λ w. p w.0)

pub all_three : {P Q R : Type 0} → Decided P → Decided Q → Decided R → Decided (P × Q × R)
all_three (inl p) (inl q) (inl r) = inl (p, q, r)
all_three (inl p) (inl q) (inr r) = inr (λ w. r w.2)
all_three (inl p) (inr q) r = inr (λ w. q w.1)
all_three (inr p) q r = inr (λ w. p w.0)

pub either : {P Q : Type 0} → Decided P → Decided Q → Decided (P ⊎ Q)
either (inl p) q = inl (inl p)
either (inr p) (inl q) = inl (inr q)
either (inr p) (inr q) = inr (λ w. elim w [ inl a ↦ p a | inr b ↦ q b ])

pub not_so : {P : Type 0} → Decided P → Decided (¬ P)
not_so (inl p) = inr (λ n. n p)
not_so (inr n) = inl n

pub by_bool : {P : Type 0} (b : Bool) → Decides b P → Decided P
by_bool true d = inl (d.0 refl)
by_bool false d = inr (λ p. both_ways false refl (d.1 p))

pub is_true : (b : Bool) → Decided (IsTrue b)
is_true true = inl refl
is_true false = inr (λ n. both_ways false refl n)

module _ {X : Type 0} (P : X → Type 0) where
  pub none_of : (x : X) (xs : List X) → (P x → ⊥) → (Any P xs → ⊥) → (k : ℕ) (y : X) → k < length (x ∷ xs) → get_or (x ∷ xs) k y ≡ y → P y → ⊥
  none_of x xs n none zero y l is p = n (subst P (sym is) p)
  none_of x xs n none (suc k) y l is p = none (k, y, omega arith, is, p)

  pub any : ((x : X) → Decided (P x)) → (xs : List X) → Decided (Any P xs)
  any d [] = inr (λ a. omega (arith, a.2))
  any d (x ∷ xs) = elim (d x) [
    | inl p ↦ inl (0, x, omega arith, refl, p)
    | inr n ↦ elim (any d xs) [
      | inl a ↦ inl (suc a.0, a.1, omega (arith, a.2), a.3, a.4)
      | inr none ↦ inr (λ a. none_of x xs n none a.0 a.1 a.2 a.3 a.4)
    ]
  ]

  -- the first item that has a decided property, or none has it
  pub first_of : ((x : X) → Decided (P x)) → (xs : List X) → ((i : ℕ) × (x : X) × IsFirstAt P xs i x) ⊎ (¬ Any P xs)
  first_of d [] = inr (λ a. omega (arith, a.2))
  first_of d (x ∷ xs) = elim (d x) [
    | inl p ↦ inl (0, x, record { here = refl; holds = p; none_before = λ k y lt read q. omega arith })
    | inr n ↦ elim (first_of d xs) [
      | inl f ↦ inl (suc f.0, f.1, record { here = f.2.here; holds = f.2.holds; none_before = none_earlier x xs f.0 n f.2.none_before })
      | inr none ↦ inr (λ a. none_of x xs n none a.0 a.1 a.2 a.3 a.4)
    ]
  ]

-- ---- texts

pub same_text : (x y : Text) → Decided (x ≡ y)
same_text x y = by_bool (bytes_eq x y) (bytes_eq-Decides x y)

pub is_nil : {X : Type 0} (xs : List X) → Decided (xs ≡ [])
is_nil [] = inl refl
is_nil (x ∷ xs) = inr (λ e. let l = ap length e in omega (arith, l))

pub is_among : {X : Type 0} → ((x y : X) → Decided (x ≡ y)) → (xs : List X) (x : X) → Decided (Contains xs x)
is_among d xs x = elim (any (λ y. y ≡ x) (λ y. d y x) xs) [
  | inl a ↦ inl (a.0, a.2, get_or_default xs a.0 x a.1 a.2 ∙ a.3 ∙ a.4)
  | inr n ↦ inr (λ w. n (any_from (λ y. y ≡ x) xs x w refl))
]

heads : (a b : ℕ) (x y : Text) → a ∷ x ≡ b ∷ y → a ≡ b
heads a b x y e = cc

tails : (a b : ℕ) (x y : Text) → a ∷ x ≡ b ∷ y → x ≡ y
tails a b x y e = cc

begins : (x p : Text) → Decided (BeginsWith x p)
begins x [] = inl (x, refl)
begins [] (b ∷ p) = inr (λ w. let l = ap length w.1 in omega (arith, l))
begins (a ∷ x) (b ∷ p) = elim (cases_eq a b) [
  | inl e ↦ elim (begins x p) [
    | inl w ↦ inl (w.0, ap₂ (λ (c : ℕ) (t : Text). c ∷ t) e w.1)
    | inr n ↦ inr (λ w. n (w.0, tails a b x (p ++ w.0) w.1))
  ]
  | inr ne ↦ inr (λ w. ne (heads a b x (p ++ w.0) w.1))
]

not_in : (c : ℕ) (m : Text) (b : ℕ) → c ≢ b → (Contains m b → ⊥) → (k : ℕ) → k < length (c ∷ m) → get_or (c ∷ m) k b ≡ b → ⊥
not_in c m b ne none zero l is = ne is
not_in c m b ne none (suc k) l is = none (k, omega arith, is)

-- a text is cut at its first byte b, or has none
cut : (x : Text) (b : ℕ) → ((m : Text) × (s : Text) × IsCutAtFirst x b m s) ⊎ (Contains x b → ⊥)
cut [] b = inr (λ w. omega (arith, w.1))
cut (c ∷ x) b = elim (cases_eq c b) [
  | inl e ↦ inl ([], x, (ap (λ (y : ℕ). y ∷ x) e, λ w. omega (arith, w.1)))
  | inr ne ↦ elim (cut x b) [
    | inl w ↦ inl (c ∷ w.0, w.1, (ap (λ (t : Text). c ∷ t) w.2.0, λ v. not_in c w.0 b ne w.2.1 v.0 v.1 v.2))
    | inr none ↦ inr (λ v. not_in c x b ne none v.0 v.1 v.2)
  ]
]

-- ---- the words of a rule

word : (w x : Text) → Decided (WordMatches w x)
word w x = either (same_text w (codes "*")) (same_text w x)

subresource : (w x : Text) → Decided ((s : Text) × (w ≡ codes "*/" ++ s) × (s ≢ []) × FollowsFirstSlash x s)
subresource w x = elim (cut x slash) [
  | inl c ↦ elim (both (same_text w (codes "*/" ++ c.1)) (not_so (is_nil c.1))) [
    | inl p ↦ inl (c.1, p.0, p.1, (c.0, c.2))
    | inr n ↦ inr (λ a. let e : a.0 ≡ c.1 = IsCutAtFirst-one x a.3.0 c.0 a.0 c.1 slash a.3.1 c.2 in n (a.1 ∙ ap (λ (t : Text). codes "*/" ++ t) e, λ z. a.2 (e ∙ z)))
  ]
  | inr none ↦ inr (λ a. none (IsCutAtFirst-contains x a.3.0 a.0 slash a.3.1))
]

url_prefix : (w x q : Text) (k : ℕ) → w ≢ x → w ≡ q ++ replicate k star → (EndsInStar q → ⊥) → Decided (UrlWordMatches w x)
url_prefix w x q zero ne e none = inr (UrlWordMatches-none w x q zero ne e none (let l = ap length (e ∙ append-nil q) in omega (arith, l)))
url_prefix w x q (suc k) ne e none = elim (begins x q) [
  | inl b ↦ inl (inr (q, k, e ∙ ap (λ n. q ++ replicate n star) (sym (add-one k)), none, b))
  | inr n ↦ inr (λ m. elim m [
    | inl a ↦ ne a
    | inr b ↦
        let same : b.0 ≡ q = same_prefix b.0 q (b.1 + 1) (suc k) b.3 none (sym b.2 ∙ e) in
        n (b.4.0, b.4.1 ∙ ap (λ (t : Text). t ++ b.4.0) same)
  ])
]

url : (w x : Text) → Decided (UrlWordMatches w x)
url w x = elim (same_text w x) [
  | inl e ↦ inl (inl e)
  | inr ne ↦ let s = unstarred w in url_prefix w x s.prefix s.stars ne s.is s.none
]

target : (r : Rule) (t : What) → Decided (TargetOk r t)
target r (Resource group text name) =
    all_three
    (any (λ w. WordMatches w group) (λ w. word w group) r.groups)
    (any (λ w. ResourceWordMatches w text) (λ w. either (word w text) (subresource w text)) r.resources)
    (either (is_nil r.resource_names) (is_among same_text r.resource_names name))
target r (Url path) = any (λ w. UrlWordMatches w path) (λ w. url w path) r.urls

pub rule : (r : Rule) (verb : Text) (t : What) → Decided (RuleAllows r verb t)
rule r verb t = both (any (λ w. WordMatches w verb) (λ w. word w verb) r.verbs) (target r t)

-- ---- whom a subject names

part : (t : Text) → Decided (IsPart t)
part t = both (not_so (is_nil t)) (not_so (is_among cases_eq t colon))

account : (user : Text) → ((n : Text) × IsAccountOf user n) ⊎ ((n : Text) → IsAccountOf user n → ⊥)
account user = elim (begins user (codes "system:serviceaccount:")) [
  | inl w ↦ elim (cut w.0 colon) [
    | inl c ↦ elim (both (part c.0) (part c.1)) [
      | inl p ↦ inl (c.0, IsAccountOf-from user w.0 c.0 c.1 w.1 c.2 p.0 p.1)
      | inr n ↦ inr (λ m a. n (IsAccountOf-parts user w.0 m c.0 c.1 w.1 c.2 a))
    ]
    | inr none ↦ inr (λ n a. none (IsAccountOf-colon user w.0 n w.1 a))
  ]
  | inr none ↦ inr (λ n a. none (IsAccountOf-begins user n a))
]

account_group : (user g : Text) → Decided (IsAccountGroup user g)
account_group user g = elim (account user) [
  | inl a ↦ elim (either (same_text g (codes "system:serviceaccounts")) (same_text g (codes "system:serviceaccounts:" ++ a.0))) [
    | inl e ↦ inl (a.0, a.1, e)
    | inr n ↦ inr (λ w. n (subst (λ m. IsGroupOfAccounts m g) (IsAccountOf-one user w.0 a.0 w.1 a.1) w.2))
  ]
  | inr none ↦ inr (λ w. none w.0 w.1)
]

sign_in_group : (user : Text) (given : List Text) (g : Text) → Decided (IsSignInGroup user given g)
sign_in_group user given g =
    either (both (same_text user (codes "system:anonymous")) (same_text g (codes "system:unauthenticated")))
    (all_three (not_so (same_text user (codes "system:anonymous"))) (not_so (is_among same_text given (codes "system:unauthenticated"))) (same_text g (codes "system:authenticated")))

user_named : (who : Who) (name : Text) → Decided (IsUserNamed who name)
user_named (AsUser user given) name = same_text user name
user_named (AsMember group) name = inr (λ n. n)

in_group : (who : Who) (g : Text) → Decided (IsInGroup who g)
in_group (AsUser user given) g = either (is_among same_text given g) (either (account_group user g) (sign_in_group user given g))
in_group (AsMember group) g = same_text g group

pub names : (s : Subject) (namespace : Option Text) (who : Who) → Decided (Names s namespace who)
names (User name) namespace who = user_named who name
names (Group name) namespace who = in_group who name
names (Account (Some own) name) namespace who = user_named who (account_user own name)
names (Account None name) (Some namespace) who = user_named who (account_user namespace name)
names (Account None name) None who = inr (λ n. n)

-- ---- grants

pub live : (namespace : Option Text) (asked : Text) (t : What) → Decided (Live namespace asked t)
live None asked t = inl tt
live (Some namespace) asked (Resource group text name) = both (not_so (is_nil asked)) (same_text namespace asked)
live (Some namespace) asked (Url path) = inr (λ n. n)

grant : (who : Who) (namespace verb : Text) (t : What) (g : GrantView) → Decided (GrantAllows who namespace verb t g)
grant who namespace verb t g =
    let b = g.binding in
    all_three (live b.namespace namespace t) (any (λ s. Names s b.namespace who) (λ s. names s b.namespace who) b.subjects) (rule g.rule.rule verb t)

pub allows : (p : PolicyView) → IsPolicy p → (who : Who) (namespace verb : Text) (t : What) → Decided (Allows p.held who namespace verb t)
allows p is who namespace verb t = elim (any (GrantAllows who namespace verb t) (grant who namespace verb t) p.grants) [
  | inl a ↦ inl (grant_allows p is who namespace verb t a)
  | inr none ↦ inr (λ w. none (some_grant p.held p.grants who namespace verb t is.0 is.1 w))
]
