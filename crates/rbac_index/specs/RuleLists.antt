use Rattle.std.specs.Prelude.{◌≡◌, ◌≢◌, ℕ, ◌<◌, ◌⊎◌, ◌↔◌, List, [], Contains, Some, unwrap_or}
use Rattle.std.specs.Prelude.{slice_get}
use Rattle.std.specs.BTreeMap.{BTreeMap, get}
use Rattle.rbac_terms.specs.Text.{Text, text_cmp}
use Rattle.rbac_terms.specs.declared.matching.Rule.{Rule}
use Rattle.rbac_index.specs.declared.rule_lists.RuleLists.{RuleLists}

-- lists of numbers under words
abbrev pub Lists : Type 0
Lists = BTreeMap Text (List ℕ)

-- the numbers that are listed under a word
abbrev pub listed : Lists → Text → List ℕ
listed m w = unwrap_or (get text_cmp m w) []

-- new lists the number under the word, and otherwise what old lists
abbrev pub ListsMore : Lists → Lists → Text → ℕ → Type 0
ListsMore old new word added = (w : Text) (n : ℕ) → Contains (listed new w) n
    ↔ (Contains (listed old w) n ⊎ ((w ≡ word) × (n ≡ added)))

-- new lists the number under each of the words, and otherwise what old lists
abbrev pub ListsUnder : Lists → Lists → List Text → ℕ → Type 0
ListsUnder old new words added = (w : Text) (n : ℕ) → Contains (listed new w) n
    ↔ (Contains (listed old w) n ⊎ (Contains words w × (n ≡ added)))

-- new also lists the rule with that number under its resource words, and among the rules with URLs
-- if it has any
pub record ListsRule (old new : RuleLists) (rule : Rule) (added : ℕ) : Type 0 where
  pub words : ListsUnder old.by_word new.by_word rule.resources added
  pub urls : (n : ℕ) → Contains new.with_urls n
      ↔ (Contains old.with_urls n ⊎ ((rule.urls ≢ []) × (n ≡ added)))

-- the rule with that number is listed under the word
abbrev pub HasWordAt : List Rule → Text → ℕ → Type 0
HasWordAt rules w n = (r : Rule) × (slice_get rules n ≡ Some r) × Contains r.resources w

-- the rule with that number has URLs
abbrev pub HasUrlsAt : List Rule → ℕ → Type 0
HasUrlsAt rules n = (r : Rule) × (slice_get rules n ≡ Some r) × (r.urls ≢ [])

-- the first `count` rules are listed, each under each of its resource words, and among the rules
-- with URLs if it has any; nothing else is
pub record AreListed (rules : List Rule) (count : ℕ) (l : RuleLists) : Type 0 where
  pub words : (w : Text) (n : ℕ) → Contains (listed l.by_word w) n
      ↔ ((n < count) × HasWordAt rules w n)
  pub urls : (n : ℕ) → Contains l.with_urls n ↔ ((n < count) × HasUrlsAt rules n)
