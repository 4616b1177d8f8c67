-- The places of a role's rules, listed under the words that they hold.
use Rattle.std.specs.Prelude.{◌≡◌, ◌≢◌, ℕ, ◌<◌, ◌≤◌, ◌⊎◌, List, [], ◌∷◌, ◌++◌, AllPairs}
use Rattle.std.specs.Prelude.{Contains, codes, length, replicate, unwrap_or, slice_get, Some}
use Rattle.std.specs.BTreeMap.{BTreeMap, get}
use Rattle.rbac_terms.specs.Text.{Text, star, text_cmp}
use Rattle.rbac_terms.specs.Matching.{IsBeforeStars}
use Rattle.rbac_terms.specs.declared.matching.Rule.{Rule}
use Rattle.rbac_lint.specs.declared.prefixes.Prefix.{Prefix}
use Rattle.rbac_lint.specs.Prefixes.{AreEntriesOf, ArePrefixes}
use Rattle.rbac_lint.specs.declared.rules_by_word.Field.{Field}
use Rattle.rbac_lint.specs.declared.rules_by_word.Field.TheVariants.{Verbs, Groups}
use Rattle.rbac_lint.specs.declared.rules_by_word.Field.TheVariants.{Resources, Names}
use Rattle.rbac_lint.specs.declared.rules_by_word.Field.TheVariants.{Urls, Prefixes}
use Rattle.rbac_lint.specs.declared.rules_by_word.RulesByWord.{RulesByWord}

-- lists of places under words
abbrev pub PlaceLists : Type 0
PlaceLists = BTreeMap Text (List ℕ)

-- what is listed under a word
abbrev pub places_under : PlaceLists → Text → List ℕ
places_under m w = unwrap_or (get text_cmp m w) []

-- places that ascend
abbrev pub IsAscending : List ℕ → Type 0
IsAscending places = AllPairs (λ i j. i ≤ j) places

-- the places under each word ascend
abbrev pub AreAscending : PlaceLists → Type 0
AreAscending m = (w : Text) → IsAscending (places_under m w)

-- a rule without names allows every name, as if its name were a star
abbrev pub names_or_star : List Text → List Text
names_or_star [] = codes "*" ∷ []
names_or_star (n ∷ ns) = n ∷ ns

-- the words of a rule in one of its lists; prefixes come from its URLs
abbrev pub words_in : Field → Rule → List Text
words_in Verbs r = r.verbs
words_in Groups r = r.groups
words_in Resources r = r.resources
words_in Names r = names_or_star r.resource_names
words_in Urls r = r.urls
words_in Prefixes r = r.urls

-- a word without the stars at its end, if it has any
abbrev pub IsUrlStem : Text → Text → Type 0
IsUrlStem w stem = (k : ℕ) × (w ≡ stem ++ replicate k star)

-- what a word is listed under: itself, or what comes before its stars
abbrev pub IsListKey : Field → Text → Text → Type 0
IsListKey Prefixes w key = IsBeforeStars w key
IsListKey field w key = w ≡ key

-- ---- while places are listed

-- new is old with the place at the end, unless it is there already
pub record TakesIn (old new : List ℕ) (place : ℕ) : Type 0 where
  pub kept : (n : ℕ) → Contains old n → Contains new n
  pub has : Contains new place
  pub only : (n : ℕ) → Contains new n → Contains old n ⊎ (n ≡ place)
  pub ascending : IsAscending old → ((n : ℕ) → Contains old n → n ≤ place) → IsAscending new

-- the list of this word gets the place, and the other lists stay as they are
abbrev pub ListsPlace : PlaceLists → PlaceLists → Text → ℕ → Type 0
ListsPlace old new word place = TakesIn (places_under old word) (places_under new word) place
    × ((w : Text) → w ≢ word → places_under new w ≡ places_under old w)

-- new lists the same as old under each word
abbrev pub IsListedAsBefore : PlaceLists → PlaceLists → Type 0
IsListedAsBefore old new = (w : Text) → places_under new w ≡ places_under old w

-- the place is listed for each of the words, and no other place is added
pub record ListsAll (old new : PlaceLists) (field : Field) (words : List Text) (place : ℕ)
    : Type 0 where
  pub kept : (w : Text) (n : ℕ) → Contains (places_under old w) n → Contains (places_under new w) n
  pub has : (w key : Text) → Contains words w → IsListKey field w key
      → Contains (places_under new key) place
  pub only : (w : Text) (n : ℕ) → Contains (places_under new w) n
      → Contains (places_under old w) n ⊎ (n ≡ place)
  pub ascending : AreAscending old
      → ((w : Text) (n : ℕ) → Contains (places_under old w) n → n ≤ place) → AreAscending new

-- the first `count` rules are listed for each of their words in that list, ascending
pub record AreRulesListed (field : Field) (rules : List Rule) (count : ℕ) (m : PlaceLists)
    : Type 0 where
  pub complete : (n : ℕ) (r : Rule) (w key : Text) → n < count → slice_get rules n ≡ Some r
      → Contains (words_in field r) w → IsListKey field w key → Contains (places_under m key) n
  pub below : (w : Text) (n : ℕ) → Contains (places_under m w) n → n < count
  pub ascending : AreAscending m

-- rules are listed under their prefixes, which are in order
abbrev pub AreListedAsPrefixes : List Rule → List Prefix → Type 0
AreListedAsPrefixes rules prefixes = (m : PlaceLists)
    × AreRulesListed Prefixes rules (length rules) m × AreEntriesOf m prefixes

-- all rules are listed for all their words
pub record AreRulesByWord (rules : List Rule) (l : RulesByWord) : Type 0 where
  pub star : l.star ≡ codes "*"
  pub verbs : AreRulesListed Verbs rules (length rules) l.verbs
  pub groups : AreRulesListed Groups rules (length rules) l.groups
  pub resources : AreRulesListed Resources rules (length rules) l.resources
  pub names : AreRulesListed Names rules (length rules) l.names
  pub urls : AreRulesListed Urls rules (length rules) l.urls
  pub prefixes : AreListedAsPrefixes rules l.prefixes.items
  pub linked : ArePrefixes l.prefixes.items

-- the lists by the words of one of a rule's lists; for prefixes, those of URLs, since prefixes are
-- kept apart
abbrev pub lists_in : Field → RulesByWord → PlaceLists
lists_in Verbs l = l.verbs
lists_in Groups l = l.groups
lists_in Resources l = l.resources
lists_in Names l = l.names
lists_in Urls l = l.urls
lists_in Prefixes l = l.urls
