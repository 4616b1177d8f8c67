-- Nodes that are met, and the next level of the search.
use Rattle.std.specs.Prelude.{◌≡◌, ℕ, ◌+◌, ◌<◌, ◌≤◌, ◌⊎◌, ◌↔◌, List, [], ◌∷◌, Option, Some, None}
use Rattle.std.specs.Prelude.{Contains, IsSome, Bool, true, false, length, slice_index_or}
use Rattle.std.specs.List.Sorted.{IsStrictlyIncreasing}
use Rattle.rbac_ways.specs.Ways.{GraphView, IsEdge, IsStop, IsReachedIn}
use Rattle.rbac_ways.specs.declared.graph.Stop.{Stop}

-- the stop of a node, if it was met
abbrev pub stop_at : List (Option Stop) → ℕ → Option Stop
stop_at stops j = slice_index_or stops j None

-- how many nodes weren't met
abbrev pub unmet : List (Option Stop) → ℕ
unmet [] = 0
unmet (None ∷ stops) = unmet stops + 1
unmet (Some s ∷ stops) = unmet stops

-- nodes were met: each node that is due has a stop now, each new stop is one that its node may
-- have, and the level has the nodes that it had before and those that were met now
pub record MeetsNodes (Due : ℕ → Type 0) (May : ℕ → Stop → Type 0) (old new : List (Option Stop))
    (before level : List ℕ) : Type 0 where
  pub len : length new ≡ length old
  pub kept : (j : ℕ) (s : Stop) → stop_at old j ≡ Some s → stop_at new j ≡ Some s
  pub due : (j : ℕ) → Due j → j < length old → IsSome (stop_at new j)
  pub may : (j : ℕ) (s : Stop) → stop_at old j ≡ None → stop_at new j ≡ Some s → May j s
  pub joins : (j : ℕ) → Contains level j
      ↔ (Contains before j ⊎ ((stop_at old j ≡ None) × IsSome (stop_at new j)))
  pub room : unmet new + length level ≤ unmet old + length before

-- the stop of a node after that many edges, with i before it
abbrev pub stop_behind : ℕ → ℕ → Stop
stop_behind edges i = record { edges = edges; before = i }

-- the node is one of these, and has that stop
abbrev pub IsOneOf : (ℕ → Type 0) → Stop → ℕ → Stop → Type 0
IsOneOf Due stop j s = Due j × (s ≡ stop)

-- the node is one of the starts, and has no node before it
abbrev pub IsFirstStop : List ℕ → ℕ → Stop → Type 0
IsFirstStop starts j s = Contains starts j × (s ≡ stop_behind 0 j)

-- i has an edge to j, and is before j in its stop
abbrev pub IsNext : GraphView → ℕ → ℕ → ℕ → Stop → Type 0
IsNext g edges i j s = IsEdge g i j × (s ≡ stop_behind edges i)

-- some node of the level has an edge to j
abbrev pub IsNextTo : GraphView → List ℕ → ℕ → Type 0
IsNextTo g level j = (i : ℕ) × Contains level i × IsEdge g i j

-- the node before j is the least node of the level that has an edge to j
pub record IsAfterLeast (g : GraphView) (level : List ℕ) (edges j : ℕ) (s : Stop) : Type 0 where
  pub next : IsNext g edges s.before j s
  pub before : Contains level s.before
  pub least : (i : ℕ) → i < s.before → Contains level i → ¬ IsEdge g i j

-- the set has the node
abbrev pub SetHas : GraphView → ℕ → ℕ → Type 0
SetHas g set j = Contains (slice_index_or g.sets set []) j

-- one of these has the node
abbrev pub SomeHas : (ℕ → ℕ → Type 0) → List ℕ → ℕ → Type 0
SomeHas Has places j = (k : ℕ) × Contains places k × Has k j

-- a set of the list has the node
abbrev pub ListHas : GraphView → ℕ → ℕ → Type 0
ListHas g list j = SomeHas (SetHas g) (slice_index_or g.lists list []) j

-- each that was passed has only nodes that were met
abbrev pub AreMet : (ℕ → ℕ → Type 0) → List Bool → List (Option Stop) → Type 0
AreMet Has passed stops = (k j : ℕ) → slice_index_or passed k false ≡ true
    → Has k j → j < length stops → IsSome (stop_at stops j)

-- which lists and which sets were passed: each of these has only nodes that were met
pub record ArePassed (g : GraphView) (lists sets : List Bool) (stops : List (Option Stop))
    : Type 0 where
  pub lists_len : length lists ≡ length g.lists
  pub sets_len : length sets ≡ length g.sets
  pub lists_met : AreMet (ListHas g) lists stops
  pub sets_met : AreMet (SetHas g) sets stops

-- exactly the nodes to which ways of at most that many edges lead were met; the level has, in
-- order, those whose shortest ways have exactly that many
pub record IsMetTo (g : GraphView) (starts : List ℕ) (edges : ℕ) (stops : List (Option Stop))
    (level : List ℕ) : Type 0 where
  pub len : length stops ≡ length g.takes
  pub sound : (j : ℕ) (s : Stop) → stop_at stops j ≡ Some s
      → IsStop g starts j s × (s.edges < edges + 1)
  pub all : (n j : ℕ) → n < edges + 1 → IsReachedIn g starts n j
      → (s : Stop) × (stop_at stops j ≡ Some s) × (s.edges < n + 1)
  pub last : (j : ℕ) → Contains level j
      ↔ ((s : Stop) × (stop_at stops j ≡ Some s) × (s.edges ≡ edges))
  pub ordered : IsStrictlyIncreasing level
