-- What holds while paths or ways are listed, by where their nodes are on shortest ways through the
-- graph of nodes.
use Rattle.std.specs.Prelude.{◌≡◌, ◌≢◌, ◌⊎◌, ◌<◌, ◌↔◌, ℕ, List, Option, Some, None, AllPairs, Any}
use Rattle.std.specs.Option.{option_map}
use Rattle.std.specs.Prelude.{Contains, IsSome, MatchOption, length, slice_get, slice_index_or}
use Rattle.rbac_model.specs.Policies.{PolicyView}
use Rattle.rbac_ways.specs.Ways.{AreInOrder, AreStops, GraphView}
use Rattle.rbac_ways.specs.declared.graph.Stop.{Stop}
use Rattle.rbac_paths.specs.Access.{AllowsAccess, access_of}
use Rattle.rbac_paths.specs.Aims.{ToBeAllowed, ToTakeOver}
use Rattle.rbac_paths.specs.Nodes.{NodeView}
use Rattle.rbac_paths.specs.Paths.{PathView}
use Rattle.rbac_paths.specs.Reasons.{IsReason, ReasonView}
use Rattle.rbac_paths.specs.TakingOver.{TakesOver}
use Rattle.rbac_paths.specs.Told.{IsFirstTold}
use Rattle.rbac_paths.specs.WaysTo.{IsShorter, WayView}
use Rattle.rbac_paths.specs.declared.tracing.Direction.{Direction}
use Rattle.rbac_paths.specs.declared.tracing.Direction.TheVariants as toward
use Rattle.rbac_steps.specs.declared.steps.Step.{Step}

-- the node at that place has the property
abbrev pub IsAt : (NodeView → Type 0) → List NodeView → ℕ → Type 0
IsAt Is ys j = (y : NodeView) × (slice_get ys j ≡ Some y) × Is y

-- of a node and the one before it on a way, the one that takes over the other: the one before, if
-- steps are followed on, and the node itself, if they are followed back
abbrev pub taker : {A : Type 0} → Direction → A → A → A
taker toward.On before here = before
taker (toward.Back asked) before here = here

-- the one that takes over is related to the other
abbrev pub Along : {A : Type 0} → Direction → (A → A → Type 0) → A → A → Type 0
Along d Takes before here = Takes (taker d before here) (taker d here before)

-- the node at place i takes over the node at place j
abbrev pub TakesAt : PolicyView → List Step → List NodeView → ℕ → ℕ → Type 0
TakesAt p steps ys i j = (x y : NodeView) × (slice_get ys i ≡ Some x) × (slice_get ys j ≡ Some y)
    × TakesOver p steps x y

-- a search back begins at nodes that allow the request
abbrev pub BeginsAt : Direction → PolicyView → List NodeView → ℕ → Type 0
BeginsAt toward.On p ys j = Unit {0}
BeginsAt (toward.Back asked) p ys j = IsAt (AllowsAccess p (access_of asked)) ys j

-- the stop of the node at place j is that of a way on which one node takes over the next, and which
-- begins where the search does
pub record IsLinkedAt (d : Direction) (p : PolicyView) (steps : List Step) (ys : List NodeView)
    (j : ℕ) (s : Stop) : Type 0 where
  pub here : j < length ys
  pub before : s.before < length ys
  pub takes : s.edges ≢ 0 → Along d (TakesAt p steps ys) s.before j
  pub begins : s.edges ≡ 0 → BeginsAt d p ys j

-- all stops are such
abbrev pub AreLinked : Direction → PolicyView → List Step → List NodeView → List (Option Stop)
    → Type 0
AreLinked d p steps ys stops = (j : ℕ) (s : Stop) → slice_index_or stops j None ≡ Some s
    → IsLinkedAt d p steps ys j s

-- these are the stops of a search that starts at the nodes with the property, and their order
pub record IsFrom (Is : NodeView → Type 0) (ys : List NodeView) (g : GraphView)
    (stops : List (Option Stop)) (order : List ℕ) : Type 0 where
  pub starts : List ℕ
  pub exact : (j : ℕ) → Contains starts j ↔ IsAt Is ys j
  pub stops_are : AreStops g starts stops
  pub ordered : AreInOrder stops order

-- a node at which the search begins is listed only on the way back, if it allows the request, and
-- with the reason for that
abbrev pub BeginsBy : Direction → PolicyView → NodeView → ReasonView → Type 0
BeginsBy toward.On p y reason = ⊥
BeginsBy (toward.Back asked) p y reason = IsReason p y (ToBeAllowed (access_of asked)) reason

-- x takes over y by the step, which is the first, for this reason
abbrev pub IsTold : PolicyView → List Step → Step → ReasonView → NodeView → NodeView → Type 0
IsTold p steps step reason x y = IsFirstTold p steps x y step × IsReason p x (ToTakeOver step y) reason

-- x is the line of the node at place j, which has this stop: with the node before it on the way, the
-- step between them, and the reason for this step, unless the way begins here
pub record IsLineOf (d : Direction) (p : PolicyView) (steps : List Step) (ys : List NodeView)
    (s : Stop) (j : ℕ) (x : WayView) : Type 0 where
  pub count : x.count ≡ s.edges
  pub node : slice_get ys j ≡ Some x.node
  pub next : MatchOption x.next ((s.edges ≡ 0) × BeginsBy d p x.node x.reason)
      (λ next. (s.edges ≢ 0) × (slice_get ys s.before ≡ Some next.node)
      × Along d (IsTold p steps next.step x.reason) next.node x.node)

-- x is the line of the node at place j, and `come` has a way to this node
abbrev pub IsLineAt : Direction → PolicyView → List Step → List NodeView → List (Option Stop)
    → List (Option Stop) → ℕ → WayView → Type 0
IsLineAt d p steps ys come stops j x = IsSome (slice_index_or come j None)
    × ((s : Stop) × (slice_index_or stops j None ≡ Some s) × IsLineOf d p steps ys s j x)

-- the node with this stop isn't listed: the search follows steps on, and begins at the node
abbrev pub IsUnlisted : Direction → Stop → Type 0
IsUnlisted toward.On s = s.edges ≡ 0
IsUnlisted (toward.Back asked) s = ⊥

-- `come` has no way to place j, or the node at place j has no stop or isn't listed
abbrev pub IsPassed : Direction → List (Option Stop) → List (Option Stop) → ℕ → Type 0
IsPassed d come stops j = (slice_index_or come j None ≡ None)
    ⊎ ((s : Stop) → slice_index_or stops j None ≡ Some s → IsUnlisted d s)

-- what is listed at these places, in order; at a place that is passed, nothing needs to be listed
pub record AreToldAt {X : Type 0} (IsAt : ℕ → X → Type 0) (IsPassed : ℕ → Type 0)
    (ComesBefore : X → X → Type 0) (places : List ℕ) (xs : List X) : Type 0 where
  pub each : (x : X) → Contains xs x → (j : ℕ) × Contains places j × IsAt j x
  pub has : (j : ℕ) → Contains places j → IsPassed j ⊎ Any (IsAt j) xs
  pub ordered : AllPairs ComesBefore xs

-- the lines of the nodes at these places, in order
abbrev pub AreTraced : Direction → PolicyView → List Step → List NodeView → List (Option Stop)
    → List (Option Stop) → List ℕ → List WayView → Type 0
AreTraced d p steps ys come stops places xs =
    AreToldAt (IsLineAt d p steps ys come stops) (IsPassed d come stops) IsShorter places xs

-- the path whose last step a line has, if it has one
abbrev pub path_by : WayView → Option PathView
path_by x = option_map (λ next. record {
  count = x.count;
  node = x.node;
  before = next.node;
  step = next.step;
  reason = x.reason;
}) x.next
