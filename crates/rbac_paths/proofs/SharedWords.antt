-- By a row, a rule takes over a user or a group exactly if it takes a word by which this one can be
-- had.
use Rattle.std.proofs.Common.{◌≡◌, ◌≢◌, ◌⊎◌, ◌↔◌, ◌∙◌, ℕ, zero, suc, ◌<◌, List, [], ◌∷◌, Option, Some, None, Contains, ap, arith, inl, inr, refl, subst, sym}
use Rattle.rbac_terms.specs.Text.{Text}
use Rattle.rbac_terms.specs.Targets.{Resource}
use Rattle.rbac_terms.specs.Principals.{Who, AsUser, AsMember, IsPart, account_user}
use Rattle.rbac_terms.specs.Matching.{NameMatches, VerbOk}
use Rattle.rbac_terms.specs.declared.matching.Rule.{Rule}
use Rattle.rbac_model.specs.Policies.{Live}
use Rattle.rbac_model.proofs.OwnWords.{any_from}
use Rattle.rbac_paths.specs.Asked.{HasRowNameFor}
use Rattle.rbac_paths.specs.Nodes.{IsAccountNamed, Somebody}
use Rattle.rbac_paths.specs.Rows.{HasRowResource, MatchesRow}
use Rattle.rbac_paths.specs.SharedWords.{AreHadBy, CountsAtKubeSystem, IsWordFor, LetsName, TakesWord, account_words, bootstrapper_words, group_words}
use Rattle.rbac_paths.specs.SharedWords.{any_account, any_account_named, any_account_of, any_bootstrapper, any_group, any_user, bootstrap_word, that_account, that_bootstrapper, that_group, that_user}
use Rattle.rbac_paths.specs.Steps.{CountsThere, IsNameAsked, StepRowView, asked_in, kube_system}
use Rattle.rbac_paths.specs.Taking.{IsBootstrapper, IsOver, RowTakes}
use Rattle.rbac_paths.specs.declared.table.Counts.{Counts}
use Rattle.rbac_paths.specs.declared.table.Names.{Names}
use Rattle.rbac_paths.specs.declared.table.Names.TheVariants as names
use Rattle.rbac_paths.specs.declared.table.Over.{Over}
use Rattle.rbac_paths.specs.declared.table.Over.TheVariants as over
use Rattle.rbac_paths.proofs.Allowing.{any_name_for}
use Rattle.rbac_paths.proofs.Counting.{counts_live, live_counts, not_empty}

-- ---- names

-- a node has that name, or any name if there is none
abbrev pub IsNameFor : Option Text → Text → Type 0
IsNameFor None own = Unit {0}
IsNameFor (Some name) own = name ≡ own

pub lets_name : (kind : Names) (rule : Rule) (own name : Text) → IsNameAsked kind own name → NameMatches rule.resource_names name → (c : Option Text) × LetsName kind rule c × IsNameFor c own
lets_name names.None rule own name asked matches = (None, subst (λ (n : Text). NameMatches rule.resource_names n) asked matches, tt)
lets_name names.Own rule own name asked (inl none) = (None, none, tt)
lets_name names.Own rule own name asked (inr has) = (Some own, subst (λ (n : Text). Contains rule.resource_names n) asked has, refl)
lets_name names.Any rule own name asked matches = (None, tt, tt)

pub name_let : (kind : Names) (rule : Rule) (c : Option Text) (own : Text) → LetsName kind rule c → IsNameFor c own → HasRowNameFor kind own rule
name_let names.None rule None own lets is = ([], refl, lets)
name_let names.None rule (Some n) own lets is = elim lets [ ]
name_let names.Own rule None own lets is = (own, refl, inl lets)
name_let names.Own rule (Some n) own lets is = (own, refl, inr (subst (λ (t : Text). Contains rule.resource_names t) is lets))
name_let names.Any rule None own lets is = any_name_for own rule
name_let names.Any rule (Some n) own lets is = elim lets [ ]

-- ---- words

of_cons : {X : Type 0} (x : X) (xs : List X) (y : X) → Contains (x ∷ xs) y → (y ≡ x) ⊎ Contains xs y
of_cons x xs y (zero, l, e) = inl (sym e)
of_cons x xs y (suc k, l, e) = inr (k, omega (arith, l), e)

-- the mark of a word
abbrev mark : Text → ℕ
mark [] = 0
mark (b ∷ t) = b

-- the part of a word after its mark
abbrev behind : Text → Text
behind [] = []
behind (b ∷ t) = t

-- the words of a user who is no service account, of a group, and of a service account, one by one
module _ (w : Text) where
  in_two : (a b : Text) (ws : List Text) → ws ≡ a ∷ b ∷ [] → Contains ws w → (w ≡ a) ⊎ (w ≡ b)
  in_two a b ws e h = elim (of_cons a (b ∷ []) w (subst (λ (l : List Text). Contains l w) e h)) [
    | inl is ↦ inl is
    | inr rest ↦ (elim (of_cons b [] w rest) [ inl is ↦ inr is | inr none ↦ absurd (let low = none.1 in omega (arith, low)) ])
  ]

  in_four : (a b c d : Text) (ws : List Text) → ws ≡ a ∷ b ∷ c ∷ d ∷ [] → Contains ws w → (w ≡ a) ⊎ ((w ≡ b) ⊎ ((w ≡ c) ⊎ (w ≡ d)))
  in_four a b c d ws e h = elim (of_cons a (b ∷ c ∷ d ∷ []) w (subst (λ (l : List Text). Contains l w) e h)) [
    | inl is ↦ inl is
    | inr rest ↦ (elim (of_cons b (c ∷ d ∷ []) w rest) [
      | inl is ↦ inr (inl is)
      | inr more ↦ inr (inr (in_two c d (c ∷ d ∷ []) refl more))
    ])
  ]

-- which marks the words for this user or group can have
abbrev IsMarkFor : Who → ℕ → Type 0
IsMarkFor (AsUser user given) k = (((n m : Text) → IsAccountNamed (AsUser user given) n m → ⊥) × (80 < k)) ⊎ (((n : Text) × (m : Text) × IsAccountNamed (AsUser user given) n m) × (k < 70))
IsMarkFor (AsMember group) k = (70 < k) × (k < 80)

marked_two : (w a b : Text) → (w ≡ a) ⊎ (w ≡ b) → (mark w ≡ mark a) ⊎ (mark w ≡ mark b)
marked_two w a b (inl e) = inl (ap mark e)
marked_two w a b (inr e) = inr (ap mark e)

above : (k : ℕ) → (k ≡ 85) ⊎ (k ≡ 86) → 80 < k
above k (inl e) = omega (arith, e)
above k (inr e) = omega (arith, e)

-- the word is one of those for this group
abbrev IsGroupWord : Text → Text → Type 0
IsGroupWord group w = (w ≡ any_group) ⊎ ((w ≡ that_group group) ⊎ (((w ≡ any_bootstrapper) ⊎ (w ≡ that_bootstrapper group)) × IsBootstrapper group))

group_word : (group w : Text) (ws : List Text) → AreHadBy (AsMember group) ws → Contains ws w → IsGroupWord group w
group_word group w ws (inl (none, e)) h = elim (in_two w any_group (that_group group) ws e h) [ inl any ↦ inl any | inr that ↦ inr (inl that) ]
group_word group w ws (inr (is, e)) h = elim (in_four w any_group (that_group group) any_bootstrapper (that_bootstrapper group) ws e h) [
  | inl any ↦ inl any
  | inr (inl that) ↦ inr (inl that)
  | inr (inr more) ↦ inr (inr (more, is))
]

amid : (group w : Text) → IsGroupWord group w → (70 < mark w) × (mark w < 80)
amid group w (inl e) = let k : mark w ≡ 71 = ap mark e in (omega (arith, k), omega (arith, k))
amid group w (inr (inl e)) = let k : mark w ≡ 72 = ap mark e in (omega (arith, k), omega (arith, k))
amid group w (inr (inr (inl e, is))) = let k : mark w ≡ 73 = ap mark e in (omega (arith, k), omega (arith, k))
amid group w (inr (inr (inr e, is))) = let k : mark w ≡ 74 = ap mark e in (omega (arith, k), omega (arith, k))

below : (w : Text) (user namespace name : Text) → (w ≡ any_account) ⊎ ((w ≡ any_account_of namespace) ⊎ ((w ≡ any_account_named name) ⊎ (w ≡ that_account user))) → mark w < 70
below w user namespace name (inl e) = let k : mark w ≡ 65 = ap mark e in omega (arith, k)
below w user namespace name (inr (inl e)) = let k : mark w ≡ 66 = ap mark e in omega (arith, k)
below w user namespace name (inr (inr (inl e))) = let k : mark w ≡ 67 = ap mark e in omega (arith, k)
below w user namespace name (inr (inr (inr e))) = let k : mark w ≡ 68 = ap mark e in omega (arith, k)

told_by_mark : (who : Who) (ws : List Text) (w : Text) → AreHadBy who ws → Contains ws w → IsMarkFor who (mark w)
told_by_mark (AsUser user given) ws w (inl (none, e)) h = inl (none, above (mark w) (marked_two w any_user (that_user user) (in_two w any_user (that_user user) ws e h)))
told_by_mark (AsUser user given) ws w (inr (namespace, name, one, e)) h = inr ((namespace, name, (one namespace name).1 (refl, refl)), below w user namespace name (in_four w any_account (any_account_of namespace) (any_account_named name) (that_account user) ws e h))
told_by_mark (AsMember group) ws w of h = amid group w (group_word group w ws of h)

-- if a word is one of two, and has another mark than the first, it is the second
is_second : (w a b : Text) → (w ≡ a) ⊎ (w ≡ b) → mark w ≢ mark a → w ≡ b
is_second w a b (inl e) differ = absurd (differ (ap mark e))
is_second w a b (inr e) differ = e

module _ (w user namespace name : Text) where
  abbrev IsAccountWord : Type 0
  IsAccountWord = (w ≡ any_account) ⊎ ((w ≡ any_account_of namespace) ⊎ ((w ≡ any_account_named name) ⊎ (w ≡ that_account user)))

  is_of : IsAccountWord → mark w ≡ 66 → w ≡ any_account_of namespace
  is_of (inl e) k = absurd (let j : mark w ≡ 65 = ap mark e in omega (arith, j, k))
  is_of (inr (inl e)) k = e
  is_of (inr (inr (inl e))) k = absurd (let j : mark w ≡ 67 = ap mark e in omega (arith, j, k))
  is_of (inr (inr (inr e))) k = absurd (let j : mark w ≡ 68 = ap mark e in omega (arith, j, k))

  is_named : IsAccountWord → mark w ≡ 67 → w ≡ any_account_named name
  is_named (inl e) k = absurd (let j : mark w ≡ 65 = ap mark e in omega (arith, j, k))
  is_named (inr (inl e)) k = absurd (let j : mark w ≡ 66 = ap mark e in omega (arith, j, k))
  is_named (inr (inr (inl e))) k = e
  is_named (inr (inr (inr e))) k = absurd (let j : mark w ≡ 68 = ap mark e in omega (arith, j, k))

  is_that : IsAccountWord → mark w ≡ 68 → w ≡ that_account user
  is_that (inl e) k = absurd (let j : mark w ≡ 65 = ap mark e in omega (arith, j, k))
  is_that (inr (inl e)) k = absurd (let j : mark w ≡ 66 = ap mark e in omega (arith, j, k))
  is_that (inr (inr (inl e))) k = absurd (let j : mark w ≡ 67 = ap mark e in omega (arith, j, k))
  is_that (inr (inr (inr e))) k = e

-- ---- a row takes over exactly the users and groups with which it shares a word

-- the namespace and the name in a row's requests that take over a user or a group
record IsAskedFor (o : Over) (counts : Counts) (home c : Option Text) (who : Who) (namespace own : Text) : Type 0 where
  pub over : IsOver o counts (Somebody who) namespace own
  pub named : IsNameFor c own
  pub live : (group text name : Text) → Live home (asked_in counts namespace) (Resource group text name)

abbrev CanAsk : Over → Counts → Option Text → Option Text → Who → Type 0
CanAsk o counts home c who = (namespace : Text) × (own : Text) × IsAskedFor o counts home c who namespace own

module _ (counts : Counts) (user : Text) (given ws : List Text) (w : Text) (h : Contains ws w) where
  users_any : AreHadBy (AsUser user given) ws → w ≡ any_user → CanAsk over.Users counts None None (AsUser user given)
  users_any of e = elim (told_by_mark (AsUser user given) ws w of h) [
    | inl plain ↦ ([], user, record { over = (refl, refl, plain.0); named = tt; live = λ g t n. tt })
    | inr account ↦ absurd (let k : mark w ≡ 85 = ap mark e in let low = account.1 in omega (arith, k, low))
  ]

  users_named : (name : Text) → AreHadBy (AsUser user given) ws → w ≡ that_user name → CanAsk over.Users counts None (Some name) (AsUser user given)
  users_named name (inl (none, e)) is =
      let k : mark w ≡ 86 = ap mark is in
      let same : w ≡ that_user user = is_second w any_user (that_user user) (in_two w any_user (that_user user) ws e h) (λ j. omega (arith, j, k)) in
      ([], user, record { over = (refl, refl, none); named = ap behind (sym is ∙ same); live = λ g t n. tt })
  users_named name (inr account) is = absurd (elim (told_by_mark (AsUser user given) ws w (inr account) h) [
    | inl plain ↦ plain.0 account.0 account.1 ((account.2 account.0 account.1).1 (refl, refl))
    | inr low ↦ (let k : mark w ≡ 86 = ap mark is in let less = low.1 in omega (arith, k, less))
  ])

  accounts_any : AreHadBy (AsUser user given) ws → w ≡ any_account → CanAsk over.Accounts counts None None (AsUser user given)
  accounts_any of e = elim (told_by_mark (AsUser user given) ws w of h) [
    | inl plain ↦ absurd (let k : mark w ≡ 65 = ap mark e in let high = plain.1 in omega (arith, k, high))
    | inr account ↦ (account.0.0, account.0.1, record { over = account.0.2; named = tt; live = λ g t n. tt })
  ]

  no_user : (none : (n m : Text) → IsAccountNamed (AsUser user given) n m → ⊥) (e : ws ≡ any_user ∷ that_user user ∷ []) → mark w < 70 → ⊥
  no_user none e low = let high = above (mark w) (marked_two w any_user (that_user user) (in_two w any_user (that_user user) ws e h)) in omega (arith, low, high)

  module _ (namespace own : Text) (one : (n m : Text) → IsAccountNamed (AsUser user given) n m ↔ ((n ≡ namespace) × (m ≡ own))) (e : ws ≡ account_words user namespace own) where
    account : IsAccountNamed (AsUser user given) namespace own
    account = (one namespace own).1 (refl, refl)

    which : IsAccountWord w user namespace own
    which = in_four w any_account (any_account_of namespace) (any_account_named own) (that_account user) ws e h

    accounts_named : (name : Text) → w ≡ any_account_named name → CanAsk over.Accounts counts None (Some name) (AsUser user given)
    accounts_named name is = (namespace, own, record { over = account; named = ap behind (sym is ∙ is_named w user namespace own which (ap mark is)); live = λ g t n. tt })

    accounts_of : (home : Text) → w ≡ any_account_of home → CountsThere counts home → CanAsk over.Accounts counts (Some home) None (AsUser user given)
    accounts_of home is there = (namespace, own, record { over = account; named = tt; live = λ g t n. counts_live counts home namespace g t n there (ap behind (sym is ∙ is_of w user namespace own which (ap mark is))) })

    account_there : (home name : Text) → w ≡ that_account (account_user home name) → IsPart home → IsPart name → CountsThere counts home → CanAsk over.Accounts counts (Some home) (Some name) (AsUser user given)
    account_there home name is part other there =
        (home, name, record { over = (sym (ap behind (sym is ∙ is_that w user namespace own which (ap mark is))), part, other); named = refl; live = λ g t n. counts_live counts home home g t n there refl })

-- requests in the namespace of bootstrap tokens are live for a rule that counts there
live_at : (counts : Counts) (home : Option Text) → CountsAtKubeSystem counts home → (group text name : Text) → Live home (asked_in counts kube_system) (Resource group text name)
live_at counts None at group text name = tt
live_at counts (Some home) at group text name = counts_live counts home kube_system group text name at.0 at.1

module _ (counts : Counts) (group : Text) (w : Text) (of : IsGroupWord group w) where
  groups_any : CanAsk over.Groups counts None None (AsMember group)
  groups_any = ([], group, record { over = (refl, refl); named = tt; live = λ g t n. tt })

  is_that_group : (name : Text) → w ≡ that_group name → w ≡ that_group group
  is_that_group name is = let k : mark w ≡ 72 = ap mark is in elim of [
    | inl e ↦ absurd (let j : mark w ≡ 71 = ap mark e in omega (arith, j, k))
    | inr (inl e) ↦ e
    | inr (inr (inl e, b)) ↦ absurd (let j : mark w ≡ 73 = ap mark e in omega (arith, j, k))
    | inr (inr (inr e, b)) ↦ absurd (let j : mark w ≡ 74 = ap mark e in omega (arith, j, k))
  ]

  groups_named : (name : Text) → w ≡ that_group name → CanAsk over.Groups counts None (Some name) (AsMember group)
  groups_named name is = ([], group, record { over = (refl, refl); named = ap behind (sym is ∙ is_that_group name is); live = λ g t n. tt })

  is_bootstrapper : (c : Option Text) → w ≡ bootstrap_word c → IsBootstrapper group × IsNameFor c group
  is_bootstrapper None is = let k : mark w ≡ 73 = ap mark is in elim of [
    | inl e ↦ absurd (let j : mark w ≡ 71 = ap mark e in omega (arith, j, k))
    | inr (inl e) ↦ absurd (let j : mark w ≡ 72 = ap mark e in omega (arith, j, k))
    | inr (inr (e, b)) ↦ (b, tt)
  ]
  is_bootstrapper (Some name) is = let k : mark w ≡ 74 = ap mark is in elim of [
    | inl e ↦ absurd (let j : mark w ≡ 71 = ap mark e in omega (arith, j, k))
    | inr (inl e) ↦ absurd (let j : mark w ≡ 72 = ap mark e in omega (arith, j, k))
    | inr (inr (inl e, b)) ↦ absurd (let j : mark w ≡ 73 = ap mark e in omega (arith, j, k))
    | inr (inr (inr e, b)) ↦ (b, ap behind (sym is ∙ e))
  ]

  bootstrappers : (home c : Option Text) → w ≡ bootstrap_word c → CountsAtKubeSystem counts home → CanAsk over.Bootstrappers counts home c (AsMember group)
  bootstrappers home c is at = let both = is_bootstrapper c is in (kube_system, group, record { over = (refl, refl, both.0); named = both.1; live = live_at counts home at })

  no_group : (mark w < 70) ⊎ (80 < mark w) → ⊥
  no_group (inl low) = let more = (amid group w of).0 in omega (arith, low, more)
  no_group (inr high) = let less = (amid group w of).1 in omega (arith, high, less)

-- the marks of words for users, for groups and for accounts
low_mark : (counts : Counts) (home c : Option Text) (w : Text) → IsWordFor over.Accounts counts home c w → mark w < 70
low_mark counts None None w is = let k : mark w ≡ 65 = ap mark is in omega (arith, k)
low_mark counts None (Some name) w is = let k : mark w ≡ 67 = ap mark is in omega (arith, k)
low_mark counts (Some home) None w is = let k : mark w ≡ 66 = ap mark is.0 in omega (arith, k)
low_mark counts (Some home) (Some name) w is = let k : mark w ≡ 68 = ap mark is.0 in omega (arith, k)

high_mark : (counts : Counts) (home c : Option Text) (w : Text) → IsWordFor over.Users counts home c w → 80 < mark w
high_mark counts None None w is = let k : mark w ≡ 85 = ap mark is in omega (arith, k)
high_mark counts None (Some name) w is = let k : mark w ≡ 86 = ap mark is in omega (arith, k)
high_mark counts (Some home) None w is = elim is [ ]
high_mark counts (Some home) (Some name) w is = elim is [ ]

group_mark : (counts : Counts) (home c : Option Text) (w : Text) → IsWordFor over.Groups counts home c w → (70 < mark w) × (mark w < 80)
group_mark counts None None w is = let k : mark w ≡ 71 = ap mark is in (omega (arith, k), omega (arith, k))
group_mark counts None (Some name) w is = let k : mark w ≡ 72 = ap mark is in (omega (arith, k), omega (arith, k))
group_mark counts (Some home) None w is = elim is [ ]
group_mark counts (Some home) (Some name) w is = elim is [ ]

bootstrap_mark : (c : Option Text) (w : Text) → w ≡ bootstrap_word c → (70 < mark w) × (mark w < 80)
bootstrap_mark None w is = let k : mark w ≡ 73 = ap mark is in (omega (arith, k), omega (arith, k))
bootstrap_mark (Some name) w is = let k : mark w ≡ 74 = ap mark is in (omega (arith, k), omega (arith, k))

-- a word with the mark of a group is no user's
no_users : (user : Text) (given ws : List Text) (w : Text) → AreHadBy (AsUser user given) ws → Contains ws w → (70 < mark w) × (mark w < 80) → ⊥
no_users user given ws w of h range = let more = range.0 in let less = range.1 in elim (told_by_mark (AsUser user given) ws w of h) [
  | inl plain ↦ (let high = plain.1 in omega (arith, less, high))
  | inr account ↦ (let low = account.1 in omega (arith, more, low))
]

-- if a word is shared, some request takes over the user or group
shared : (o : Over) (counts : Counts) (home c : Option Text) (who : Who) (ws : List Text) (w : Text) → AreHadBy who ws → Contains ws w → IsWordFor o counts home c w → CanAsk o counts home c who
shared over.Users counts None None (AsUser user given) ws w of h is = users_any counts user given ws w h of is
shared over.Users counts None (Some name) (AsUser user given) ws w of h is = users_named counts user given ws w h name of is
shared over.Users counts (Some home) None who ws w of h is = elim is [ ]
shared over.Users counts (Some home) (Some name) who ws w of h is = elim is [ ]
shared over.Users counts None None (AsMember group) ws w of h is = absurd (no_group counts group w (group_word group w ws of h) (inr (high_mark counts None None w is)))
shared over.Users counts None (Some name) (AsMember group) ws w of h is = absurd (no_group counts group w (group_word group w ws of h) (inr (high_mark counts None (Some name) w is)))
shared over.Groups counts None None (AsMember group) ws w of h is = groups_any counts group w (group_word group w ws of h)
shared over.Groups counts None (Some name) (AsMember group) ws w of h is = groups_named counts group w (group_word group w ws of h) name is
shared over.Groups counts (Some home) None who ws w of h is = elim is [ ]
shared over.Groups counts (Some home) (Some name) who ws w of h is = elim is [ ]
shared over.Groups counts None c (AsUser user given) ws w of h is = absurd (no_users user given ws w of h (group_mark counts None c w is))
shared over.Bootstrappers counts home c (AsMember group) ws w of h is = bootstrappers counts group w (group_word group w ws of h) home c is.0 is.1
shared over.Bootstrappers counts home c (AsUser user given) ws w of h is = absurd (no_users user given ws w of h (bootstrap_mark c w is.0))
shared over.Accounts counts home c (AsMember group) ws w of h is = absurd (no_group counts group w (group_word group w ws of h) (inl (low_mark counts home c w is)))
shared over.Accounts counts home c (AsUser user given) ws w (inl (none, e)) h is = absurd (no_user counts user given ws w h none e (low_mark counts home c w is))
shared over.Accounts counts None None (AsUser user given) ws w (inr account) h is = accounts_any counts user given ws w h (inr account) is
shared over.Accounts counts None (Some name) (AsUser user given) ws w (inr (namespace, own, one, e)) h is = accounts_named counts user given ws w h namespace own one e name is
shared over.Accounts counts (Some home) None (AsUser user given) ws w (inr (namespace, own, one, e)) h is = accounts_of counts user given ws w h namespace own one e home is.0 is.1
shared over.Accounts counts (Some home) (Some name) (AsUser user given) ws w (inr (namespace, own, one, e)) h is = account_there counts user given ws w h namespace own one e home name is.0 is.1.0 is.1.1 is.2
shared over.Everything counts home c who ws w of h is = elim is [ ]
shared over.EverythingInNamespace counts home c who ws w of h is = elim is [ ]
shared over.ClusterRoles counts home c who ws w of h is = elim is [ ]
shared over.Roles counts home c who ws w of h is = elim is [ ]
shared over.Nothing counts home c who ws w of h is = elim is [ ]

-- if some request takes over a user or a group, a word is shared
has : (ws all : List Text) (w : Text) → ws ≡ all → Contains all w → Contains ws w
has ws all w e h = subst (λ (l : List Text). Contains l w) (sym e) h

abbrev Shares : Over → Counts → Option Text → Option Text → List Text → Type 0
Shares o counts home c ws = (w : Text) × Contains ws w × IsWordFor o counts home c w

has_any_group : (g : Text) (ws : List Text) → AreHadBy (AsMember g) ws → Contains ws any_group
has_any_group g ws (inl (none, e)) = has ws (group_words g) any_group e (0, omega arith, refl)
has_any_group g ws (inr (b, e)) = has ws (bootstrapper_words g) any_group e (0, omega arith, refl)

has_that_group : (g : Text) (ws : List Text) → AreHadBy (AsMember g) ws → Contains ws (that_group g)
has_that_group g ws (inl (none, e)) = has ws (group_words g) (that_group g) e (1, omega arith, refl)
has_that_group g ws (inr (b, e)) = has ws (bootstrapper_words g) (that_group g) e (1, omega arith, refl)

module _ (namespace own group text name : Text) where
  -- no binding in a namespace is live for requests in the whole cluster alone
  nowhere : (counts : Counts) (home : Text) → namespace ≡ [] → Live (Some home) (asked_in counts namespace) (Resource group text name) → ⊥
  nowhere counts home none live = let there = live_counts counts home namespace group text name live in not_empty counts home there.0 (there.1 ∙ none)

  at_kube_system : (counts : Counts) (home : Option Text) → namespace ≡ kube_system → Live home (asked_in counts namespace) (Resource group text name) → CountsAtKubeSystem counts home
  at_kube_system counts None is live = tt
  at_kube_system counts (Some home) is live = let there = live_counts counts home namespace group text name live in (there.0, there.1 ∙ is)

  asked : (o : Over) (counts : Counts) (home c : Option Text) (who : Who) (ws : List Text) → AreHadBy who ws → IsOver o counts (Somebody who) namespace own → IsNameFor c own → Live home (asked_in counts namespace) (Resource group text name) → Shares o counts home c ws
  asked over.Users counts None None (AsUser user given) ws (inl (none, e)) is named live = (any_user, has ws (any_user ∷ that_user user ∷ []) any_user e (0, omega arith, refl), refl)
  asked over.Users counts None (Some n) (AsUser user given) ws (inl (none, e)) is named live = (that_user n, has ws (any_user ∷ that_user user ∷ []) (that_user n) e (1, omega arith, ap that_user (sym (named ∙ is.1))), refl)
  asked over.Users counts home c (AsUser user given) ws (inr (n, m, one, e)) is named live = absurd (is.2 n m ((one n m).1 (refl, refl)))
  asked over.Users counts (Some home) c (AsUser user given) ws (inl plain) is named live = absurd (nowhere counts home is.0 live)
  asked over.Users counts home c (AsMember group) ws of is named live = elim is [ ]
  asked over.Groups counts None None (AsMember g) ws of is named live = (any_group, has_any_group g ws of, refl)
  asked over.Groups counts None (Some n) (AsMember g) ws of is named live = (that_group n, subst (λ (t : Text). Contains ws (that_group t)) (sym (named ∙ is.1)) (has_that_group g ws of), refl)
  asked over.Groups counts (Some home) c (AsMember g) ws of is named live = absurd (nowhere counts home is.0 live)
  asked over.Groups counts home c (AsUser user given) ws of is named live = elim is [ ]
  asked over.Bootstrappers counts home c (AsUser user given) ws of is named live = elim is [ ]
  asked over.Bootstrappers counts home c (AsMember g) ws (inl (none, e)) is named live = absurd (none is.2)
  asked over.Bootstrappers counts home None (AsMember g) ws (inr (b, e)) is named live =
      (any_bootstrapper, has ws (bootstrapper_words g) any_bootstrapper e (2, omega arith, refl), (refl, at_kube_system counts home is.0 live))
  asked over.Bootstrappers counts home (Some n) (AsMember g) ws (inr (b, e)) is named live =
      (that_bootstrapper n, has ws (bootstrapper_words g) (that_bootstrapper n) e (3, omega arith, ap that_bootstrapper (sym (named ∙ is.1))), (refl, at_kube_system counts home is.0 live))
  asked over.Accounts counts home c (AsMember g) ws of is named live = elim is [ ]
  asked over.Accounts counts home c (AsUser user given) ws (inl (none, e)) is named live = absurd (none namespace own is)
  asked over.Accounts counts None None (AsUser user given) ws (inr (n, m, one, e)) is named live = (any_account, has ws (account_words user n m) any_account e (0, omega arith, refl), refl)
  asked over.Accounts counts None (Some k) (AsUser user given) ws (inr (n, m, one, e)) is named live =
      (any_account_named k, has ws (account_words user n m) (any_account_named k) e (2, omega arith, ap any_account_named (sym (named ∙ ((one namespace own).0 is).1))), refl)
  asked over.Accounts counts (Some home) None (AsUser user given) ws (inr (n, m, one, e)) is named live =
      let there = live_counts counts home namespace group text name live in
      (any_account_of home, has ws (account_words user n m) (any_account_of home) e (1, omega arith, ap any_account_of (sym (there.1 ∙ ((one namespace own).0 is).0))), (refl, there.0))
  asked over.Accounts counts (Some home) (Some k) (AsUser user given) ws (inr (n, m, one, e)) is named live =
      let there = live_counts counts home namespace group text name live in
      let user_is : user ≡ account_user home k = is.0 ∙ ap (λ (t : Text). account_user t own) (sym there.1) ∙ ap (λ (t : Text). account_user home t) (sym named) in
      (that_account (account_user home k), has ws (account_words user n m) (that_account (account_user home k)) e (3, omega arith, ap that_account user_is), (refl, (subst IsPart (sym there.1) is.1, subst IsPart (sym named) is.2), there.0))
  asked over.Everything counts home c who ws of is named live = elim is [ ]
  asked over.EverythingInNamespace counts home c who ws of is named live = elim is [ ]
  asked over.ClusterRoles counts home c who ws of is named live = elim is [ ]
  asked over.Roles counts home c who ws of is named live = elim is [ ]
  asked over.Nothing counts home c who ws of is named live = elim is [ ]

-- ---- a rule takes over exactly the users and groups with which it shares a word

module _ (row : StepRowView) (home : Option Text) (rule : Rule) (who : Who) (ws : List Text) (of : AreHadBy who ws) where
  by_word : (w : Text) → Contains ws w → TakesWord row home rule w → RowTakes row home rule (Somebody who)
  by_word w h (matches, (c, lets, is)) =
      let can = shared row.over row.counts home c who ws w of h is in
      let asks = can.2 in
      let x = matches.2 in
      let v = matches.0 in
      let named = name_let row.names rule c can.1 lets asks.named in
      record {
        namespace = can.0;
        own = can.1;
        verb = v.1;
        text = x.1;
        name = named.0;
        over = asks.over;
        of_verbs = (v.0, v.2, v.3);
        of_resources = (x.0, x.2, x.3);
        named = named.1;
        live = asks.live row.group x.1 named.0;
        allows = (v.4, (matches.1, x.4, named.2));
      }

  some_word : RowTakes row home rule (Somebody who) → (w : Text) × Contains ws w × TakesWord row home rule w
  some_word r =
      let c = lets_name row.names rule r.own r.name r.named r.allows.1.2 in
      let s = asked r.namespace r.own row.group r.text r.name row.over row.counts home c.0 who ws of r.over c.2 r.live in
      let matches : MatchesRow row rule = (any_from (VerbOk rule) row.verbs r.verb r.of_verbs r.allows.0, r.allows.1.0, any_from (HasRowResource rule) row.resources r.text r.of_resources r.allows.1.1) in
      (s.0, s.1, (matches, (c.0, c.1, s.2)))

  pub row_shares : ((w : Text) × Contains ws w × TakesWord row home rule w) ↔ RowTakes row home rule (Somebody who)
  row_shares = (λ s. by_word s.0 s.1 s.2, some_word)
