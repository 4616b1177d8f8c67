-- requests that decide: of somebody, in a place and for a target, whom a policy allows only what it allows all that a permission stands for
use Rattle.std.proofs.Common.{◌≡◌, ◌≢◌, ℕ, ◌+◌, ◌<◌, ◌⊎◌, List, [], ◌∷◌, length, get_or, replicate, Contains, Any, inl, inr, sym, ap, refl, subst, arith, zero, suc, true, false}
use Rattle.std.specs.Prelude.{Option, Some, None}
use Rattle.std.specs.Str.{bytes_eq}
use Rattle.std.proofs.lemmas.Bool.{cond-true, cond-false, cases_Bool, both_ways}
use Rattle.std.proofs.lemmas.List.{length-replicate}
use Rattle.std.proofs.lemmas.Slice.Eq.{bytes_eq-Decides}
use Rattle.rbac_terms.specs.Text.{Text}
use Rattle.rbac_terms.specs.Targets.{What, Resource, Url, IsProper}
use Rattle.rbac_terms.specs.Principals.{Who, AsUser, AsMember, IsAccountOf}
use Rattle.rbac_terms.specs.Granting.{Names}
use Rattle.rbac_terms.specs.Matching.{UrlWordMatches, NameMatches, TargetOk}
use Rattle.rbac_terms.specs.declared.granting.Subject.{Subject}
use Rattle.rbac_terms.specs.declared.granting.Subject.TheVariants.{User, Group, Account}
use Rattle.rbac_terms.proofs.Accounts.{IsAccountOf-begins}
use Rattle.rbac_model.specs.OwnWords.{GivesPath}
use Rattle.rbac_model.specs.Policies.{GrantView, BindingNames, Live}
use Rattle.rbac_model.proofs.OwnWords.{UrlWordMatches-own, ResourceWordMatches-own, WordMatches-own}
use Rattle.rbac_model.proofs.UrlSamples.{IsUrlSample-one}
use Rattle.rbac_diff.specs.Permissions.{Permitted, OnResource, OnUrl}
use Rattle.rbac_diff.specs.Requests.{IsUser, IsFor, IsNameOrAny, IsPermitted}
use Rattle.rbac_diff.specs.Covering.{stand_ins, IsAsWide, CoversName, CoversTarget, IsAskedFor}
use Rattle.rbac_diff.proofs.Whom.{anonymous, unauthenticated, authenticated, any_first, any_second, nothing_in, only_in, byte, IsOwn}

-- ---- bounds

bound_step : {X : Type 0} (m : X → ℕ) (y : X) (ys : List X) (n : ℕ) → ((x : X) → Contains ys x → m x < n) → (x : X) (k : ℕ) → k < length (y ∷ ys) → get_or (y ∷ ys) k x ≡ x → m x < suc (m y) + n
bound_step m y ys n below x zero l e = let same : m y ≡ m x = ap m e in omega (arith, same)
bound_step m y ys n below x (suc k) l e = let b = below x (k, omega (arith, l), e) in omega (arith, b)

bounded : {X : Type 0} (m : X → ℕ) (xs : List X) → (n : ℕ) × ((x : X) → Contains xs x → m x < n)
bounded m [] = (0, λ x w. absurd (omega (arith, w.1)))
bounded m (y ∷ ys) = let rest = bounded m ys in (suc (m y) + rest.0, λ x w. bound_step m y ys rest.0 rest.1 x w.0 w.1 w.2)

-- what is longer than all texts of lists
abbrev IsBound : {Y : Type 0} → (GrantView → List Y) → (Y → Text) → List GrantView → ℕ → Type 0
IsBound {Y} items text gs n = (g : GrantView) → Contains gs g → (y : Y) → Contains (items g) y → length (text y) < n

all_bounded : {Y : Type 0} (items : GrantView → List Y) (text : Y → Text) (gs : List GrantView) → (n : ℕ) × IsBound items text gs n
all_bounded {Y} items text gs =
    let each : (g : GrantView) → (n : ℕ) × ((y : Y) → Contains (items g) y → length (text y) < n) = λ g. bounded (λ y. length (text y)) (items g) in
    let all = bounded (λ g. (each g).0) gs in
    (all.0, λ g c y d. let a = (each g).1 y d in let b = all.1 g c in omega (arith, a, b))

-- ---- somebody whom no subject names by name

-- so many letters x
abbrev letters : ℕ → Text
letters k = replicate k 120

stranger_account : (k : ℕ) (namespace : Text) → IsAccountOf (letters (suc k)) namespace → ⊥
stranger_account k namespace a = let b = IsAccountOf-begins (letters (suc k)) namespace a in let e : 120 ≡ 115 = ap (byte 0) b.1 in omega (arith, e)

stranger_anonymous : (k : ℕ) → letters (suc k) ≡ anonymous → ⊥
stranger_anonymous k e = let b : 120 ≡ 115 = ap (byte 0) e in omega (arith, b)

user_name : Subject → Text
user_name (User n) = n
user_name (Group n) = []
user_name (Account m n) = []

module _ (group : Text) (k : ℕ) where
  stranger : Who
  stranger = AsUser (letters (suc k)) (group ∷ [])

  stranger_user : group ≢ [] → (group ≡ unauthenticated → ⊥) → IsUser stranger
  unfolding stranger
  stranger_user ne other = (
    (λ e. let b : 120 ≡ 0 = ap (byte 0) e in omega (arith, b)),
    (λ w. ne (only_in group [] w)),
    (λ w. other (only_in group unauthenticated w)),
    (λ e. absurd (stranger_anonymous k e)),
  )

  stranger_member : IsFor (AsMember group) stranger
  unfolding stranger
  stranger_member = inl (0, omega arith, refl)

  -- what names a stranger names a member of the group, or of all that have signed in
  stranger_named : (own : Option Text) (s : Subject) → length (user_name s) < suc k → Names s own stranger → Any (Names s own) (AsMember group ∷ AsMember authenticated ∷ [])
  unfolding stranger user_name
  stranger_named own (User n) short e = let l = ap length e in absurd (omega (arith, l, short, length-replicate {A = ℕ} (suc k) 120))
  stranger_named own (Group n) short (inl w) = any_first (Names (Group n) own) (AsMember group) (AsMember authenticated ∷ []) (sym (only_in group n w))
  stranger_named own (Group n) short (inr (inl a)) = absurd (stranger_account k a.0 a.1)
  stranger_named own (Group n) short (inr (inr (inl a))) = absurd (stranger_anonymous k a.0)
  stranger_named own (Group n) short (inr (inr (inr a))) = any_second (Names (Group n) own) (AsMember group) (AsMember authenticated) a.2
  stranger_named own (Account (Some m) n) short e = let b : 120 ≡ 115 = ap (byte 0) e in absurd (omega (arith, b))
  stranger_named (Some m) (Account None n) short e = let b : 120 ≡ 115 = ap (byte 0) e in absurd (omega (arith, b))
  stranger_named None (Account None n) short e = absurd e

-- ---- the principal

-- somebody for whom a permission is, whom bindings of these grants name only if they name one who stands in
pub record Asker (gs : List GrantView) (principal : Who) : Type 0 where
  pub who : Who
  pub user : IsUser who
  pub is_for : IsFor principal who
  pub named : (g : GrantView) → Contains gs g → BindingNames g.binding who → Any (BindingNames g.binding) (stand_ins principal)

module _ (gs : List GrantView) where
  as_user : (name : Text) (given : List Text) → name ≢ [] → Asker gs (AsUser name given)
  as_user name given ne = record {
    who = AsUser name [];
    user = (ne, nothing_in [], nothing_in unauthenticated, λ e. refl);
    is_for = refl;
    named = λ g c h. any_first (BindingNames g.binding) (AsUser name []) [] h;
  }

  as_anonymous : (group : Text) → bytes_eq group unauthenticated ≡ true → Asker gs (AsMember group)
  as_anonymous group t =
      let stand : stand_ins (AsMember group) ≡ AsUser anonymous [] ∷ [] = cond-true (bytes_eq group unauthenticated) (AsUser anonymous [] ∷ []) (AsMember group ∷ AsMember authenticated ∷ []) t in
      record {
        who = AsUser anonymous [];
        user = ((λ e. let b : 115 ≡ 0 = ap (byte 0) e in omega (arith, b)), nothing_in [], nothing_in unauthenticated, λ e. refl);
        is_for = inr (inr (inl (refl, (bytes_eq-Decides group unauthenticated).0 t)));
        named = λ g c h. subst (Any (BindingNames g.binding)) (sym stand) (any_first (BindingNames g.binding) (AsUser anonymous []) [] h);
      }

  as_stranger : (group : Text) → group ≢ [] → bytes_eq group unauthenticated ≡ false → Asker gs (AsMember group)
  as_stranger group ne f =
      let two : List Who = AsMember group ∷ AsMember authenticated ∷ [] in
      let stand : stand_ins (AsMember group) ≡ two = cond-false (bytes_eq group unauthenticated) (AsUser anonymous [] ∷ []) two f in
      let bound = all_bounded (λ g. g.binding.subjects) user_name gs in
      record {
        who = stranger group bound.0;
        user = stranger_user group bound.0 ne (λ e. both_ways (bytes_eq group unauthenticated) f ((bytes_eq-Decides group unauthenticated).1 e));
        is_for = stranger_member group bound.0;
        named = λ g c h.
            let short = bound.1 g c h.1 (h.0, h.2, h.3) in
            let w = stranger_named group bound.0 g.binding.namespace h.1 (omega (arith, short)) h.4 in
            subst (Any (BindingNames g.binding)) (sym stand) (w.0, w.1, w.2, w.3, (h.0, h.1, h.2, h.3, w.4));
      }

  pub asker : (principal : Who) → IsOwn principal → Asker gs principal
  asker (AsUser name given) own = as_user name given own.0
  asker (AsMember group) ne = elim (cases_Bool (bytes_eq group unauthenticated)) [
    | inl t ↦ as_anonymous group t
    | inr f ↦ as_stranger group ne f
  ]

-- ---- what is asked for

-- where, and what, a permission permits, which rules of these grants allow only if they allow all that is permitted
pub record Asked (gs : List GrantView) (t : Permitted) : Type 0 where
  pub namespace : Text
  pub target : What
  pub proper : IsProper target
  pub permitted : IsPermitted t namespace target
  pub wide : (own : Option Text) → Live own namespace target → IsAsWide own t
  pub covers : (g : GrantView) → Contains gs g → TargetOk g.rule.rule target → CoversTarget g.rule.rule t

-- the namespace of a RoleBinding, or none
place : Option Text → Text
place None = []
place (Some m) = m

live_at : (own : Option Text) (g t n : Text) → own ≢ Some [] → Live own (place own) (Resource g t n)
unfolding place
live_at None g t n ne = tt
live_at (Some m) g t n ne = ((λ e. ne (ap (λ (x : Text). Some x) e)), refl)

wide_from : (own asked : Option Text) (g t n : Text) → Live own (place asked) (Resource g t n) → (own ≡ None) ⊎ (own ≡ asked)
unfolding place
wide_from None asked g t n live = inl refl
wide_from (Some m) None g t n live = absurd (live.0 refl)
wide_from (Some m) (Some a) g t n live = inr (ap (λ (x : Text). Some x) live.1)

url_wide : (path : Text) (own : Option Text) → Live own [] (Url path) → own ≡ None
url_wide path None live = refl
url_wide path (Some m) live = absurd live

module _ (gs : List GrantView) where
  -- the object name, or one that is longer than all names of rules
  pub asked_name : (name : Option Text) → (n : Text) × IsNameOrAny name n × ((g : GrantView) → Contains gs g → NameMatches g.rule.rule.resource_names n → CoversName g.rule.rule.resource_names name)
  asked_name (Some own) = (own, refl, λ g c h. h)
  asked_name None =
      let bound = all_bounded (λ g. g.rule.rule.resource_names) (λ n. n) gs in (
        letters bound.0,
        tt,
        λ g c h. elim h [
          | inl none ↦ none
          | inr w ↦ let short = bound.1 g c (letters bound.0) w in absurd (omega (arith, short, length-replicate {A = ℕ} bound.0 120))
        ],
      )

  pub asked : (t : Permitted) → IsAskedFor t → Asked gs t
  unfolding GivesPath
  asked (OnResource namespace group resource name) is =
      let n = asked_name name in
      record {
        namespace = place namespace;
        target = Resource group resource n.0;
        proper = is.1;
        permitted = (live_at namespace group resource n.0 is.0, WordMatches-own group, ResourceWordMatches-own resource, n.1);
        wide = λ own live. wide_from own namespace group resource n.0 live;
        covers = λ g c h. (h.0, h.1, n.2 g c h.2);
      }
  asked (OnUrl url) is = record {
    namespace = [];
    target = Url is.0;
    proper = is.2;
    permitted = UrlWordMatches-own url is.0 is.1;
    wide = url_wide is.0;
    covers = λ g c h x sample. subst (λ (y : Text). Any (λ w. UrlWordMatches w y) g.rule.rule.urls) (IsUrlSample-one url is.0 x is.1 sample) h;
  }
