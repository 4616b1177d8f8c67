-- How the graph of nodes is joined: users and groups by words, and the other nodes one by one. The
-- other nodes are roles, and everything in a scope.
use Rattle.std.specs.Prelude.{◌≡◌, ◌↔◌, ◌⊎◌, ℕ, ◌<◌, List, [], ◌∷◌, ◌++◌, Option, None, Some, All, Any}
use Rattle.std.specs.Prelude.{Contains, IsTrue, codes, length, slice_get, slice_index_or}
use Rattle.std.specs.Option.{option_copied}
use Rattle.rbac_terms.specs.Text.{Text}
use Rattle.rbac_terms.specs.Matching.{NameMatches}
use Rattle.rbac_terms.specs.Principals.{Who}
use Rattle.rbac_terms.specs.declared.matching.Rule.{Rule}
use Rattle.rbac_model.specs.Policies.{GrantView, PolicyView}
use Rattle.rbac_ways.specs.Joining.{ByWordView, HasUnder}
use Rattle.rbac_paths.specs.Deciding.{AreNumbersOf, IsAnyNode}
use Rattle.rbac_paths.specs.Having.{HoldingView}
use Rattle.rbac_paths.specs.Nodes.{NodeView, Somebody, ClusterRoleIn, OwnRole, EverythingIn}
use Rattle.rbac_paths.specs.Rows.{MatchesRow}
use Rattle.rbac_paths.specs.SharedLists.{AreShared}
use Rattle.rbac_paths.specs.SharedWords.{AreHadBy}
use Rattle.rbac_paths.specs.Steps.{StepRowView, table}
use Rattle.rbac_paths.specs.Taking.{CanTakeOver, scope_namespace}
use Rattle.rbac_paths.specs.TakingOver.{TakesOver}
use Rattle.rbac_paths.specs.Told.{HoldingsHaveAll, HoldingsTake, grant_holding}
use Rattle.rbac_paths.specs.Tracing.{IsAt}
use Rattle.rbac_steps.specs.declared.steps.Step.{Step}
use Rattle.rbac_paths.specs.declared.table.Over.{Over}
use Rattle.rbac_paths.specs.declared.table.Over.TheVariants as over
use Rattle.rbac_paths.specs.declared.other_nodes.Seen.{Seen}

-- x takes over a user or a group exactly if x takes a word by which that can be had
abbrev pub TakesByWords : PolicyView → List Step → NodeView → (Text → Type 0) → Type 0
TakesByWords p steps x TakesWord = (who : Who) (had : List Text) → AreHadBy who had
    → ((w : Text) × TakesWord w × Contains had w) ↔ TakesOver p steps x (Somebody who)

-- one of the other nodes: a role, or everything in a scope
abbrev pub IsNobody : NodeView → Type 0
IsNobody (Somebody who) = ⊥
IsNobody (ClusterRoleIn role scope) = Unit {0}
IsNobody (OwnRole role) = Unit {0}
IsNobody (EverythingIn scope) = Unit {0}

-- a role
abbrev pub IsRole : NodeView → Type 0
IsRole (Somebody who) = ⊥
IsRole (ClusterRoleIn role scope) = Unit {0}
IsRole (OwnRole role) = Unit {0}
IsRole (EverythingIn scope) = ⊥

-- what was seen of a scope holds of these holdings: if they have everything, they can take it over
-- by `bind` or `escalate`
abbrev pub SeesAll : List Step → List HoldingView → Seen → Type 0
SeesAll steps hs seen = IsTrue seen.has_all
    → HoldingsHaveAll steps hs (option_copied seen.scope)

-- exactly the places of the other nodes in the list
abbrev pub AreOtherPlaces : List NodeView → List ℕ → Type 0
AreOtherPlaces ys places = (j : ℕ) → Contains places j ↔ IsAt IsNobody ys j

-- at the place in the list is one of the other nodes, and x takes it over
abbrev pub IsOther : PolicyView → List Step → NodeView → List NodeView → ℕ → Type 0
IsOther p steps x ys j = (y : NodeView) × (slice_get ys j ≡ Some y) × IsNobody y × TakesOver p steps x y

-- exactly the places of the other nodes that x takes over
abbrev pub AreOthers : PolicyView → List Step → NodeView → List NodeView → List ℕ → Type 0
AreOthers p steps x ys js = (j : ℕ) → Contains js j ↔ IsOther p steps x ys j

-- exactly those of them that are among some places
abbrev pub AreOthersAt : PolicyView → List Step → NodeView → List NodeView → List ℕ → List ℕ → Type 0
AreOthersAt p steps x ys places js = (j : ℕ) → Contains js j
    ↔ (Contains places j × IsOther p steps x ys j)

-- roles or everything are taken over, and not users, groups, service accounts or nothing
abbrev pub IsOverNobody : Over → Type 0
IsOverNobody over.Users = ⊥
IsOverNobody over.Groups = ⊥
IsOverNobody over.Bootstrappers = ⊥
IsOverNobody over.Accounts = ⊥
IsOverNobody over.Everything = Unit {0}
IsOverNobody over.EverythingInNamespace = Unit {0}
IsOverNobody over.ClusterRoles = Unit {0}
IsOverNobody over.Roles = Unit {0}
IsOverNobody over.Nothing = ⊥

-- the row takes over roles or everything, and the rule matches it
abbrev pub MatchesOverOthers : Rule → StepRowView → Type 0
MatchesOverOthers rule row = IsOverNobody row.over × MatchesRow row rule

-- the rule matches such a row of the step
unfoldable pub MayTakeBy : Rule → Step → Type 0
MayTakeBy rule step = Any (λ row. (row.step ≡ step) × MatchesOverOthers rule row) table

-- the holding may take over other nodes: its rule matches such a row of one of the steps
unfoldable pub SomeMayTake : List Step → HoldingView → Type 0
SomeMayTake steps h = Any (MayTakeBy h.rule) steps

-- exactly the holdings that may take over other nodes
abbrev pub AreOverOthers : List Step → List HoldingView → List HoldingView → Type 0
AreOverOthers steps hs few = (h : HoldingView) → Contains few h
    ↔ (Contains hs h × SomeMayTake steps h)

-- the grant with number n may take over other nodes
abbrev pub IsOverOthersAt : PolicyView → List Step → ℕ → Type 0
IsOverOthersAt p steps n = (g : GrantView) × (slice_get p.grants n ≡ Some g)
    × SomeMayTake steps (grant_holding g)

-- for each binding, exactly its grants that may take over other nodes, among the given ones
abbrev pub AreFewGrants : PolicyView → List Step → List (List ℕ) → List (List ℕ) → Type 0
AreFewGrants p steps grants few = (at n : ℕ) → Contains (slice_index_or few at []) n
    ↔ (Contains (slice_index_or grants at []) n × IsOverOthersAt p steps n)

-- the scope of a role, or of everything
abbrev pub scope_at : NodeView → Option Text
scope_at (Somebody who) = None
scope_at (ClusterRoleIn role scope) = scope
scope_at (OwnRole role) = Some role.namespace
scope_at (EverythingIn scope) = scope

-- the name of one of the other nodes: a role's name; everything in a scope has none
abbrev pub name_at : NodeView → Text
name_at (Somebody who) = []
name_at (ClusterRoleIn role scope) = role.name
name_at (OwnRole role) = role.name
name_at (EverythingIn scope) = []

-- the word for the other nodes in a scope: in the namespace, or in the whole cluster if it is empty
abbrev pub in_scope : Text → Text
in_scope namespace = codes "S" ++ namespace

-- the word for the other nodes with that name, in any scope
abbrev pub named : Text → Text
named name = codes "N" ++ name

-- the word for the other nodes with that name in that scope
abbrev pub named_in : Text → Text → Text
named_in name namespace = ((codes "M" ++ name) ++ codes "/") ++ namespace

-- the words by which a node with that name in that scope is found
abbrev pub words_at : Text → Text → List Text
words_at name namespace = in_scope namespace ∷ named name ∷ named_in name namespace ∷ []

-- the words by which one of the other nodes is found
abbrev pub other_words : NodeView → List Text
other_words (Somebody who) = []
other_words (ClusterRoleIn role scope) = words_at role.name (scope_namespace scope)
other_words (OwnRole role) = words_at role.name role.namespace
other_words (EverythingIn scope) = words_at [] (scope_namespace scope)

-- these words of each of the first `count` nodes
abbrev pub AreOtherWords : List NodeView → ℕ → List (List Text) → Type 0
AreOtherWords ys count all = (length all ≡ count) × ((k : ℕ) (y : NodeView) → k < count
    → slice_get ys k ≡ Some y → slice_index_or all k [] ≡ other_words y)

-- the places of the other nodes: all of them, and those that are found by each word
pub record OthersView : Type 0 where
  pub places : List ℕ
  pub by_word : ByWordView

-- exactly the places of the other nodes of the list
pub record AreAmongOthers (ys : List NodeView) (o : OthersView) : Type 0 where
  pub places : AreOtherPlaces ys o.places
  pub by_word : (w : Text) (j : ℕ) → HasUnder o.by_word w j
      ↔ IsAt (λ y. Contains (other_words y) w) ys j

-- the holding counts in the scope: its rule counts there, or in the whole cluster
abbrev pub CountsAt : Option Text → HoldingView → Type 0
CountsAt scope h = (h.home ≡ None) ⊎ (h.home ≡ scope)

-- the holding may take over y by its scope and its names: its rule counts there, and isn't limited
-- to names, or lists the name of y; everything in a scope has no name
pub record MayAsk (y : NodeView) (h : HoldingView) : Type 0 where
  pub counts : CountsAt (scope_at y) h
  pub named : NameMatches h.rule.resource_names (name_at y) ⊎ (name_at y ≡ [])

-- each role, and everything in a namespace, that x takes over is one that one of the holdings may
-- take over by its scope and its names
abbrev pub AreScoped : PolicyView → List Step → NodeView → List HoldingView → Type 0
AreScoped p steps x hs = (y : NodeView) → IsNobody y → ¬ (y ≡ EverythingIn None) → TakesOver p steps x y
    → Any (MayAsk y) hs

-- the holding counts in the whole cluster, and its rule isn't limited to names
abbrev pub AsksAll : HoldingView → Type 0
AsksAll h = (h.home ≡ None) × (h.rule.resource_names ≡ [])

-- the word for what a rule that counts in `home` may take over: what has that name, or whatever is
-- in the namespace if there is none
abbrev pub asked_word : Option Text → Option Text → Text
asked_word None (Some name) = named name
asked_word (Some home) (Some name) = named_in name home
asked_word home None = in_scope (scope_namespace home)

-- the node at place j is found by a word of the holding: for a name that its rule lists, for
-- everything in a scope, or for any name if the rule lists none
abbrev pub IsAskedBy : ByWordView → HoldingView → ℕ → Type 0
IsAskedBy n h j = Any (λ name. HasUnder n (asked_word h.home (Some name)) j) h.rule.resource_names
    ⊎ (HasUnder n (asked_word h.home (Some [])) j
    ⊎ ((h.rule.resource_names ≡ []) × HasUnder n (asked_word h.home None) j))

-- places of other nodes: among them each that one of the `scoped` holdings may take over by its
-- scope and its names, and, if one of the `few` counts in the whole cluster, everything there
pub record AreAskedPlaces (ys : List NodeView) (few scoped : List HoldingView) (places : List ℕ)
    : Type 0 where
  pub others : All (IsAt IsNobody ys) places
  pub may : (j : ℕ) (y : NodeView) → slice_get ys j ≡ Some y → IsNobody y
      → Any (MayAsk y) scoped → Contains places j
  pub in_cluster : (j : ℕ) → slice_get ys j ≡ Some (EverythingIn None)
      → Any (CountsAt None) few → Contains places j

-- by each of the steps, the holdings can take over the same nodes as x, among those that it is
-- about
abbrev pub DecideOn : PolicyView → List Step → NodeView → List HoldingView → (NodeView → Type 0)
    → Type 0
DecideOn p steps x hs IsAbout = (step : Step) (y : NodeView) → Contains steps step → IsAbout y
    → HoldingsTake step hs y ↔ CanTakeOver p x step y

-- which other nodes the first nodes of a list take over: holdings that decide it, for each node;
-- lists of their places, and for each node the place of its list
pub record OthersTakenView : Type 0 where
  pub overs : List (List HoldingView)
  pub lists : List (List ℕ)
  pub places : List ℕ

-- of each of the first `count` nodes: the holdings decide which other nodes it takes over, and its
-- list has exactly the places of these
pub record AreTaken (p : PolicyView) (steps : List Step) (ys : List NodeView) (count : ℕ)
    (o : OthersTakenView) : Type 0 where
  pub len : length o.overs ≡ count
  pub decide : (k : ℕ) (y : NodeView) → k < count → slice_get ys k ≡ Some y
      → DecideOn p steps y (slice_index_or o.overs k []) IsNobody
  pub others : AreShared ℕ
      (λ k js. (y : NodeView) → slice_get ys k ≡ Some y → AreOthers p steps y ys js)
      count o.lists o.places

-- the numbers of the taking grants and the rules of the node at a place
pub record DecidingView : Type 0 where
  pub place : ℕ
  pub numbers : List ℕ
  pub holdings : List HoldingView

-- they decide which nodes x takes over
abbrev pub DecidesOf : PolicyView → List Step → NodeView → DecidingView → Type 0
DecidesOf p steps x d = AreNumbersOf p steps x d.numbers × DecideOn p steps x d.holdings IsAnyNode

-- they decide it for the node at their place, if one is there
abbrev pub IsDeciding : PolicyView → List Step → List NodeView → DecidingView → Type 0
IsDeciding p steps ys d = (x : NodeView) → slice_get ys d.place ≡ Some x → DecidesOf p steps x d

-- about y, and about the other nodes, because of which `bind` and `escalate` may leave out y
abbrev pub IsAboutNode : NodeView → NodeView → Type 0
IsAboutNode y z = (z ≡ y) ⊎ IsNobody z

-- the words by which a node can be had; the other nodes have none
abbrev pub IsHadBy : NodeView → List Text → Type 0
IsHadBy (Somebody who) ws = AreHadBy who ws
IsHadBy (ClusterRoleIn role scope) ws = ws ≡ []
IsHadBy (OwnRole role) ws = ws ≡ []
IsHadBy (EverythingIn scope) ws = ws ≡ []

-- for each of the first `count` nodes, the words that it takes, if it is one of the other nodes
pub record AreOwnWords (p : PolicyView) (steps : List Step) (ys : List NodeView) (count : ℕ)
    (own : List (List Text)) : Type 0 where
  pub len : length own ≡ count
  pub words : (k : ℕ) (y : NodeView) → k < count → slice_get ys k ≡ Some y → IsNobody y
      → TakesByWords p steps y (λ w. Contains (slice_index_or own k []) w)

-- for each of the first `count` nodes, the words by which it can be had
pub record AreHad (ys : List NodeView) (count : ℕ) (had : List (List Text)) : Type 0 where
  pub len : length had ≡ count
  pub words : (k : ℕ) (y : NodeView) → k < count → slice_get ys k ≡ Some y
      → IsHadBy y (slice_index_or had k [])
