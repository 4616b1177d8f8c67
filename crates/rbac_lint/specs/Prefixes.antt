-- The prefixes of a role's URLs, in order; each links to the longest other one that it begins with,
-- if there is one.
use Rattle.std.specs.Prelude.{◌≡◌, ℕ, ◌<◌, ◌≤◌, List, [], ◌∷◌, ◌++◌, Option, Some, None, IfSome}
use Rattle.std.specs.Prelude.{map, slice_get, true}
use Rattle.std.specs.BTreeMap.{BTreeMap, IsOrdered}
use Rattle.std.specs.Ordering.{is_le}
use Rattle.rbac_terms.specs.Text.{Text, text_cmp, BeginsWith}
use Rattle.rbac_lint.specs.declared.prefixes.Prefix.{Prefix}

-- a prefix's text with its places
abbrev pub entry_of : Prefix → Text × List ℕ
entry_of f = (f.text, f.places)

-- the prefix with this text, these places and this link
abbrev pub prefix : Text → List ℕ → Option ℕ → Prefix
prefix text places shorter = record { text = text; places = places; shorter = shorter }

-- the text at place j is on the way from place i: the prefix at i begins with the text, and isn't
-- before j
abbrev pub IsOnWay : List Prefix → Option ℕ → ℕ → Text → Type 0
IsOnWay prefixes None j text = ⊥
IsOnWay prefixes (Some i) j text = (f : Prefix) × (slice_get prefixes i ≡ Some f) × (j ≤ i)
    × BeginsWith f.text text

-- the way has each of the first `count` prefixes that the text begins with
abbrev pub LinksTo : List Prefix → ℕ → Text → Option ℕ → Type 0
LinksTo prefixes count text way = (j : ℕ) (g : Prefix) → j < count → slice_get prefixes j ≡ Some g
    → BeginsWith text g.text → IsOnWay prefixes way j g.text

-- the link of a prefix, if it has one, is to an earlier prefix, and the way from there has all
-- earlier ones that the prefix begins with
abbrev pub IsLinkedAt : List Prefix → ℕ → Prefix → Type 0
IsLinkedAt prefixes i f = LinksTo prefixes i f.text f.shorter × IfSome f.shorter (λ p. p < i)

-- each prefix is linked so
abbrev pub AreLinkedPrefixes : List Prefix → Type 0
AreLinkedPrefixes prefixes = (i : ℕ) (f : Prefix) → slice_get prefixes i ≡ Some f
    → IsLinkedAt prefixes i f

-- prefixes ascend, and are linked
pub record ArePrefixes (prefixes : List Prefix) : Type 0 where
  pub order : (i j : ℕ) (f g : Prefix) → i ≤ j → slice_get prefixes i ≡ Some f
      → slice_get prefixes j ≡ Some g → is_le (text_cmp f.text g.text) ≡ true
  pub linked : AreLinkedPrefixes prefixes

-- these are the entries of a map, whose words ascend
abbrev pub AreEntriesOf : BTreeMap Text (List ℕ) → List Prefix → Type 0
AreEntriesOf m prefixes = IsOrdered text_cmp m × (map entry_of prefixes ≡ m.entries)

-- new is old with one more prefix at the end
abbrev pub PutsPrefix : List Prefix → List Prefix → Text → List ℕ → Type 0
PutsPrefix old new text places = (way : Option ℕ) × (new ≡ old ++ prefix text places way ∷ [])
    × ArePrefixes new
