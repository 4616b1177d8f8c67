-- Shortest ways through a graph whose edges go through sets of nodes.
use Rattle.std.specs.Prelude.{◌≡◌, ◌⊎◌, ◌↔◌, ℕ, zero, suc, ◌<◌, List, [], Option, None, Some}
use Rattle.std.specs.Prelude.{IsSome}
use Rattle.std.specs.Prelude.{AllPairs, Contains, MatchOption, length, slice_index_or}
use Rattle.rbac_ways.specs.declared.graph.Stop.{Stop}

-- a graph: the lists that each node takes, the sets of each list, and the nodes of each set
pub record GraphView : Type 0 where
  pub takes : List (List ℕ)
  pub lists : List (List ℕ)
  pub sets : List (List ℕ)

-- an edge leads from i to j: i takes a list that has a set that contains j
pub record IsEdge (g : GraphView) (i j : ℕ) : Type 0 where
  pub list : ℕ
  pub set : ℕ
  pub takes : Contains (slice_index_or g.takes i []) list
  pub lists : Contains (slice_index_or g.lists list []) set
  pub has : Contains (slice_index_or g.sets set []) j
  pub node : j < length g.takes

-- a way of n edges leads from a start to j
abbrev pub IsReachedIn : GraphView → List ℕ → ℕ → ℕ → Type 0
IsReachedIn g starts zero j = Contains starts j × (j < length g.takes)
IsReachedIn g starts (suc n) j = (i : ℕ) × IsReachedIn g starts n i × IsEdge g i j

-- n edges are the fewest that lead from a start to j
pub record IsNearest (g : GraphView) (starts : List ℕ) (n j : ℕ) : Type 0 where
  pub leads : IsReachedIn g starts n j
  pub fewest : (k : ℕ) → k < n → ¬ IsReachedIn g starts k j

-- the node before j on a shortest way of n edges: the least that can be, or j itself if n is 0
abbrev pub IsLeastBefore : GraphView → List ℕ → ℕ → ℕ → ℕ → Type 0
IsLeastBefore g starts zero j b = b ≡ j
IsLeastBefore g starts (suc n) j b = IsNearest g starts n b × IsEdge g b j
    × ((i : ℕ) → i < b → IsNearest g starts n i → ¬ IsEdge g i j)

-- where j is on a shortest way
pub record IsStop (g : GraphView) (starts : List ℕ) (j : ℕ) (s : Stop) : Type 0 where
  pub nearest : IsNearest g starts s.edges j
  pub before : IsLeastBefore g starts s.edges j s.before

-- for each node, where it is on a shortest way, or nothing if no way leads to it
pub record AreStops (g : GraphView) (starts : List ℕ) (stops : List (Option Stop)) : Type 0 where
  pub len : length stops ≡ length g.takes
  pub each : (j : ℕ) → j < length stops → MatchOption (slice_index_or stops j None)
      ((n : ℕ) → ¬ IsReachedIn g starts n j)
      (IsStop g starts j)

-- the way to i has fewer edges than the way to j, or as many, and i has the lesser number
abbrev pub IsMetBefore : List (Option Stop) → ℕ → ℕ → Type 0
IsMetBefore stops i j = (s t : Stop)
    × (slice_index_or stops i None ≡ Some s) × (slice_index_or stops j None ≡ Some t)
    × ((s.edges < t.edges) ⊎ ((s.edges ≡ t.edges) × (i < j)))

-- exactly the nodes that have stops, in order of how many edges their ways have, and then of their
-- own numbers
pub record AreInOrder (stops : List (Option Stop)) (order : List ℕ) : Type 0 where
  pub exact : (j : ℕ) → Contains order j ↔ IsSome (slice_index_or stops j None)
  pub ordered : AllPairs (IsMetBefore stops) order
