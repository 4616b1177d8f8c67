-- Graphs of nodes that share words.
use Rattle.std.specs.Prelude.{◌≡◌, ℕ, ◌+◌, ◌<◌, ◌⊎◌, ◌↔◌, List, [], Some, Contains, length}
use Rattle.std.specs.Prelude.{slice_get, slice_index_or}
use Rattle.std.specs.List.Sorted.{IsStrictlySortedBy}
use Rattle.rbac_terms.specs.Text.{Text, text_cmp}

-- a list at one of these places has it
abbrev pub IsListedIn : {X : Type 0} → List (List X) → List ℕ → X → Type 0
IsListedIn lists places x = (place : ℕ) × Contains places place
    × Contains (slice_index_or lists place []) x

-- i takes a word by which j can be had: a list at one of the places of i has the word
abbrev pub SharesWord : List (List Text) → List (List ℕ) → List (List Text) → ℕ → ℕ → Type 0
SharesWord lists takes had_by i j = (w : Text) × IsListedIn lists (slice_index_or takes i []) w
    × Contains (slice_index_or had_by j []) w

-- the number is listed at that place
abbrev pub IsListedAt : List (List ℕ) → ℕ → ℕ → Type 0
IsListedAt lists place number = Contains (slice_index_or lists place []) number

-- node i takes the nodes of the list of `also` at its own place
abbrev pub TakesListed : List (List ℕ) → List ℕ → ℕ → ℕ → Type 0
TakesListed also own i j = (place : ℕ) × (slice_get own i ≡ Some place) × IsListedAt also place j

-- turned has `count` lists, and its list j has i exactly if list i has j
pub record AreTurned (lists : List (List ℕ)) (count : ℕ) (turned : List (List ℕ)) : Type 0 where
  pub len : length turned ≡ count
  pub each : (i j : ℕ) → j < count → IsListedAt turned j i ↔ IsListedAt lists i j

-- the words of these lists, each once, in order; the number of a word is its place
pub record AreWordsOf (lists : List (List Text)) (words : List Text) : Type 0 where
  pub ascending : IsStrictlySortedBy text_cmp words
  pub same : (w : Text) → Contains words w ↔ ((i : ℕ) × Contains (slice_index_or lists i []) w)

-- a listed word has the number
abbrev pub IsNumberOf : List Text → List Text → ℕ → Type 0
IsNumberOf words listed number = (w : Text) × Contains listed w × (slice_get words number ≡ Some w)

-- this many lists, each of which has exactly what it shall have
pub record AreLists (Has : ℕ → ℕ → Type 0) (count : ℕ) (lists : List (List ℕ)) : Type 0 where
  pub len : length lists ≡ count
  pub each : (i number : ℕ) → i < count → IsListedAt lists i number ↔ Has i number

-- list k has the numbers of its words
abbrev pub HasNumber : List Text → List (List Text) → ℕ → ℕ → Type 0
HasNumber words lists k number = IsNumberOf words (slice_index_or lists k []) number

-- list k has the sets of its words; each list after those of words has one set, which comes as far
-- after the sets of words as the list after those of words
abbrev pub HasSet : List Text → List (List Text) → ℕ → ℕ → Type 0
HasSet words lists k set = HasNumber words lists k set
    ⊎ ((place : ℕ) × (k ≡ length lists + place) × (set ≡ length words + place))

-- node i has a place of its own below `more`, and takes the list that comes so far after the first
-- `count` lists
abbrev pub TakesOwn : ℕ → ℕ → List ℕ → ℕ → ℕ → Type 0
TakesOwn count more own i list = (place : ℕ) × (slice_get own i ≡ Some place)
    × (place < more) × (list ≡ count + place)

-- node i takes the lists at its places, of which there are `count`, and one at its own place
abbrev pub TakesList : ℕ → ℕ → List (List ℕ) → List ℕ → ℕ → ℕ → Type 0
TakesList count more takes own i list = (IsListedAt takes i list × (list < count))
    ⊎ TakesOwn count more own i list

-- new is old with the node added to the lists at these places
pub record AddsToEach (places : List ℕ) (node : ℕ) (old new : List (List ℕ)) : Type 0 where
  pub len : length new ≡ length old
  pub each : (i j : ℕ) → i < length old → IsListedAt new i j
      ↔ (IsListedAt old i j ⊎ ((j ≡ node) × Contains places i))

-- words in order, and the nodes that can be had by the word at each place
pub record ByWordView : Type 0 where
  pub words : List Text
  pub sets : List (List ℕ)

-- the node can be had by the word
abbrev pub HasUnder : ByWordView → Text → ℕ → Type 0
HasUnder n w j = (number : ℕ) × (slice_get n.words number ≡ Some w) × IsListedAt n.sets number j
