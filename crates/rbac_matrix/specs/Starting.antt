-- Where the rows after a key begin.
use Rattle.std.specs.Prelude.{◌≡◌, ℕ, ◌+◌, ◌≤◌, ◌⊎◌, List, [], ◌∷◌, ◌++◌, Contains, map, Option}
use Rattle.std.specs.Prelude.{Some, None, take, drop, length, slice_get}
use Rattle.std.specs.declared.cmp.Ordering.{Ordering}
use Rattle.std.specs.declared.cmp.Ordering.TheVariants.{Less, Equal, Greater}
use Rattle.std.specs.Cmp.Lexicographic.{slice_cmp}
use Rattle.rbac_terms.specs.Text.{Text, text_cmp}
use Rattle.rbac_terms.specs.Targets.{What}
use Rattle.rbac_terms.specs.Principals.{who_key}
use Rattle.rbac_terms.specs.Keys.{KeyTexts, texts}
use Rattle.rbac_model.specs.Universes.{UniverseView, Listed, Cell, IsCellOf, target_texts}
use Rattle.rbac_matrix.specs.Cells.{cells_of}
use Rattle.rbac_matrix.specs.Lines.{LineView, lines_from}
use Rattle.rbac_matrix.specs.Passing.{cells_left}
use Rattle.rbac_matrix.specs.declared.line.Place.{Place}

-- the texts by which requests are in order: those of the request's key, but with the namespace even
-- if the request is for a URL
abbrev pub cell_name : Cell → List Text
cell_name c = who_key c.who ∷ c.namespace ∷ c.verb ∷ target_texts c.target

-- a request comes after the key; without a key, each request does
abbrev pub IsAfter : Option KeyTexts → Cell → Type 0
IsAfter None c = Unit {0}
IsAfter (Some k) c = slice_cmp text_cmp (cell_name c) (texts k) ≡ Greater

-- the requests from the place on, whether they fit or not, come after the key, and no request
-- before does
pub record IsStart (u : UniverseView) (k : Option KeyTexts) (at : Place) (from : ℕ) : Type 0 where
  pub before : List Cell
  pub whole : cells_of u ≡ before ++ cells_left u at from
  pub early : (c : Cell) → Contains before c → IsAfter k c → ⊥
  pub late : (c : Cell) → Contains (cells_left u at from) c → IsAfter k c

-- the line at the place is the key's own
abbrev pub IsOwnLine : UniverseView → KeyTexts → Place → Type 0
IsOwnLine u k at =
    (l : LineView) × (ls : List LineView) × (lines_from u at ≡ l ∷ ls)
    × (who_key l.who ≡ k.principal) × (l.namespace ≡ k.namespace) × (l.verb ≡ k.verb)

-- no request of the universe has the principal, the namespace and the verb of a key
abbrev pub HasNoLine : UniverseView → KeyTexts → Type 0
HasNoLine u k = (c : Cell) → IsCellOf u c → who_key c.who ≡ k.principal → c.namespace ≡ k.namespace
    → c.verb ≡ k.verb → ⊥

-- the first line is the key's own if the universe has it; if not, or without a key, all rows of the
-- line are included
abbrev pub BeginsOnLine : UniverseView → Option KeyTexts → Place → ℕ → Type 0
BeginsOnLine u None at from = from ≡ 0
BeginsOnLine u (Some k) at from = IsOwnLine u k at ⊎ (HasNoLine u k × (from ≡ 0))

-- the element at that place of an ascending list compares equal to t, and no other element does
pub record IsFoundAt {X K : Type 0} (cmp : K → K → Ordering) (name : X → K) (xs : List X) (t : K)
    (i : ℕ) : Type 0 where
  pub here : (x : X) × (slice_get xs i ≡ Some x) × (cmp (name x) t ≡ Equal)
  pub below : (x : X) → Contains (take i xs) x → cmp (name x) t ≡ Less
  pub above : (x : X) → Contains (drop (i + 1) xs) x → cmp (name x) t ≡ Greater

-- no element compares equal to t, and t would go to that place
pub record IsGapAt {X K : Type 0} (cmp : K → K → Ordering) (name : X → K) (xs : List X) (t : K)
    (i : ℕ) : Type 0 where
  pub within : i ≤ length xs
  pub below : (x : X) → Contains (take i xs) x → cmp (name x) t ≡ Less
  pub above : (x : X) → Contains (drop i xs) x → cmp (name x) t ≡ Greater

-- the principal, the namespace and the verb of a key are at that place
pub record IsOwnPlace (u : UniverseView) (k : KeyTexts) (at : Place) : Type 0 where
  pub principal : IsFoundAt text_cmp who_key u.principals k.principal at.principal
  pub namespace : IsFoundAt text_cmp (λ n. n) u.namespaces k.namespace at.namespace
  pub verb : IsFoundAt text_cmp (λ v. v) u.verbs k.verb at.verb

-- the targets of a universe, and the texts of a key's target
abbrev pub whats : UniverseView → List What
whats u = map (λ t. t.0) u.targets

abbrev pub target_part : KeyTexts → List Text
target_part k = k.group ∷ k.resource ∷ k.name ∷ []

-- the targets from that place on come after the key's target, and the targets before it don't
pub record IsTargetPlace (u : UniverseView) (k : KeyTexts) (place : ℕ) : Type 0 where
  pub within : place ≤ length u.targets
  pub below : (t : Listed) → Contains (take place u.targets) t
      → slice_cmp text_cmp (target_texts t) (target_part k) ≡ Greater → ⊥
  pub above : (t : Listed) → Contains (drop place u.targets) t
      → slice_cmp text_cmp (target_texts t) (target_part k) ≡ Greater
