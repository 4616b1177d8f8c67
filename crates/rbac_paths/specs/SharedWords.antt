-- The words by which users and groups can be had, and the words that rules take. A rule takes over
-- a user or a group exactly if it takes a word by which this user or group can be had (own).
use Rattle.std.specs.Prelude.{◌≡◌, ◌⊎◌, ◌↔◌, ℕ, List, [], ◌∷◌, ◌++◌, Option, Some, None}
use Rattle.std.specs.Prelude.{Any, Contains, codes, length, slice_get, slice_index_or}
use Rattle.rbac_terms.specs.Text.{Text}
use Rattle.rbac_terms.specs.Principals.{Who, AsUser, AsMember, IsPart, account_user}
use Rattle.rbac_terms.specs.Matching.{NameMatches}
use Rattle.rbac_terms.specs.declared.matching.Rule.{Rule}
use Rattle.rbac_model.specs.Policies.{GrantView, PolicyView}
use Rattle.rbac_paths.specs.Having.{HoldingView}
use Rattle.rbac_paths.specs.Nodes.{IsAccountNamed}
use Rattle.rbac_paths.specs.Rows.{MatchesRow}
use Rattle.rbac_paths.specs.SharedLists.{AreShared}
use Rattle.rbac_paths.specs.Steps.{CountsThere, StepRowView, kube_system, table}
use Rattle.rbac_paths.specs.Takeovers.{takeover_of}
use Rattle.rbac_paths.specs.Taking.{IsBootstrapper}
use Rattle.rbac_steps.specs.declared.steps.Step.{Step}
use Rattle.rbac_paths.specs.declared.table.Counts.{Counts}
use Rattle.rbac_paths.specs.declared.table.Counts.TheVariants as counted
use Rattle.rbac_paths.specs.declared.table.Names.{Names}
use Rattle.rbac_paths.specs.declared.table.Names.TheVariants as names
use Rattle.rbac_paths.specs.declared.table.Over.{Over}
use Rattle.rbac_paths.specs.declared.table.Over.TheVariants as over
use Rattle.rbac_paths.specs.declared.takeover.Takeover.{Takeover}

-- the word for any user who is no service account
abbrev pub any_user : Text
any_user = codes "U"

-- the word for the user with that name
abbrev pub that_user : Text → Text
that_user name = codes "V" ++ name

-- the word for any group
abbrev pub any_group : Text
any_group = codes "G"

-- the word for that group
abbrev pub that_group : Text → Text
that_group name = codes "H" ++ name

-- the word for any group that bootstrap tokens can have
abbrev pub any_bootstrapper : Text
any_bootstrapper = codes "I"

-- the word for that group, if bootstrap tokens can have it
abbrev pub that_bootstrapper : Text → Text
that_bootstrapper name = codes "J" ++ name

-- the word for the group with that name, or for any group, that bootstrap tokens can have
abbrev pub bootstrap_word : Option Text → Text
bootstrap_word None = any_bootstrapper
bootstrap_word (Some name) = that_bootstrapper name

-- the word for any service account
abbrev pub any_account : Text
any_account = codes "A"

-- the word for any service account of a namespace
abbrev pub any_account_of : Text → Text
any_account_of namespace = codes "B" ++ namespace

-- the word for any service account with that name, in any namespace
abbrev pub any_account_named : Text → Text
any_account_named name = codes "C" ++ name

-- the word for the one service account that asks as that user
abbrev pub that_account : Text → Text
that_account user = codes "D" ++ user

-- the words by which a service account can be had
abbrev pub account_words : Text → Text → Text → List Text
account_words user namespace name = any_account ∷ any_account_of namespace
    ∷ any_account_named name ∷ that_account user ∷ []

-- the words by which a group can be had
abbrev pub group_words : Text → List Text
group_words group = any_group ∷ that_group group ∷ []

-- the words by which a group that bootstrap tokens can have can be had
abbrev pub bootstrapper_words : Text → List Text
bootstrapper_words group = any_group ∷ that_group group ∷ any_bootstrapper
    ∷ that_bootstrapper group ∷ []

-- the words by which a user or a group can be had
abbrev pub AreHadBy : Who → List Text → Type 0
AreHadBy (AsUser user given) ws =
    (((n m : Text) → ¬ IsAccountNamed (AsUser user given) n m)
    × (ws ≡ any_user ∷ that_user user ∷ []))
    ⊎ ((namespace name : Text)
    × ((n m : Text) → IsAccountNamed (AsUser user given) n m ↔ ((n ≡ namespace) × (m ≡ name)))
    × (ws ≡ account_words user namespace name))
AreHadBy (AsMember group) ws = ((¬ IsBootstrapper group) × (ws ≡ group_words group))
    ⊎ (IsBootstrapper group × (ws ≡ bootstrapper_words group))

-- the second mark and then the name; without a name, the first mark alone
abbrev pub chosen_word : ℕ → ℕ → Option Text → Text
chosen_word any that None = any ∷ []
chosen_word any that (Some name) = that ∷ name

-- the rule's object names match a row's requests for nodes with that name, or, if there is none,
-- for nodes with any name
abbrev pub LetsName : Names → Rule → Option Text → Type 0
LetsName names.None rule None = NameMatches rule.resource_names []
LetsName names.Own rule None = rule.resource_names ≡ []
LetsName names.Own rule (Some name) = Contains rule.resource_names name
LetsName names.Any rule None = Unit {0}
LetsName _ rule _ = ⊥

-- requests in the namespace of bootstrap tokens count for a rule that counts in `home`
abbrev pub CountsAtKubeSystem : Counts → Option Text → Type 0
CountsAtKubeSystem counts None = Unit {0}
CountsAtKubeSystem counts (Some home) = CountsThere counts home × (home ≡ kube_system)

-- the word for the users, groups or service accounts that a row takes over by a rule that counts in
-- `home`: those with that name, or with any name if there is none
abbrev pub IsWordFor : Over → Counts → Option Text → Option Text → Text → Type 0
IsWordFor over.Users counts None None w = w ≡ any_user
IsWordFor over.Users counts None (Some name) w = w ≡ that_user name
IsWordFor over.Groups counts None None w = w ≡ any_group
IsWordFor over.Groups counts None (Some name) w = w ≡ that_group name
IsWordFor over.Bootstrappers counts home name w = (w ≡ bootstrap_word name)
    × CountsAtKubeSystem counts home
IsWordFor over.Accounts counts None None w = w ≡ any_account
IsWordFor over.Accounts counts None (Some name) w = w ≡ any_account_named name
IsWordFor over.Accounts counts (Some home) None w = (w ≡ any_account_of home)
    × CountsThere counts home
IsWordFor over.Accounts counts (Some home) (Some name) w =
    (w ≡ that_account (account_user home name)) × (IsPart home × IsPart name)
    × CountsThere counts home
IsWordFor _ counts home name w = ⊥

-- a rule with this takeover takes the word if the rule counts in `home`, which is a namespace or
-- the whole cluster
abbrev pub LetsWord : Takeover → Option Text → Rule → Text → Type 0
LetsWord t home rule w = (name : Option Text) × LetsName t.names rule name
    × IsWordFor t.over t.counts home name w

-- the rule takes the word by the row if the rule counts in `home`
abbrev pub TakesWord : StepRowView → Option Text → Rule → Text → Type 0
TakesWord row home rule w = MatchesRow row rule × LetsWord (takeover_of row) home rule w

-- new has exactly what old has, and what has the property
abbrev pub AddsWhere : {X : Type 0} → (X → Type 0) → List X → List X → Type 0
AddsWhere {X} Is old new = (x : X) → Contains new x ↔ (Contains old x ⊎ Is x)

-- the rule takes the word by a row of the step if the rule counts in `home`
abbrev pub StepTakesWord : Option Text → Rule → Text → Step → Type 0
StepTakesWord home rule w step = Any (λ row. (row.step ≡ step) × TakesWord row home rule w) table

-- one of these holdings takes the word by one of these steps
abbrev pub TakeWord : List Step → List HoldingView → Text → Type 0
TakeWord steps hs w = Any (λ h. Any (StepTakesWord h.home h.rule w) steps) hs

-- the grant with number n takes the word by one of these steps
abbrev pub GrantTakesWord : PolicyView → List Step → Text → ℕ → Type 0
GrantTakesWord p steps w n = (g : GrantView) × (slice_get p.grants n ≡ Some g)
    × Any (StepTakesWord g.binding.namespace g.rule.rule w) steps

-- grants with these numbers take the same words as those with the others, by whichever steps
abbrev pub TakeSameWords : PolicyView → List ℕ → List ℕ → Type 0
TakeSameWords p ms ns = (steps : List Step) (w : Text)
    → Any (GrantTakesWord p steps w) ms ↔ Any (GrantTakesWord p steps w) ns

-- for each binding, the place of a list that has exactly the words that these grants of it take
abbrev pub AreGrantWords : PolicyView → List Step → List (List ℕ) → List (List Text) → List ℕ → Type 0
AreGrantWords p steps grants = AreShared Text (λ at ws. (w : Text)
    → Contains ws w ↔ Any (GrantTakesWord p steps w) (slice_index_or grants at [])) (length grants)
