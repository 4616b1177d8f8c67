-- Where to look for the rules that cover a rule: under the words that match one of the rule's
-- words.
use Rattle.std.specs.Prelude.{◌≡◌, ℕ, ◌≤◌, ◌⊎◌, ◌++◌, List, Option, Some, MatchOption, All, Any}
use Rattle.std.specs.Prelude.{Contains, codes, slice_get}
use Rattle.std.proofs.Common.{Bor}
use Rattle.rbac_terms.specs.Text.{Text, BeginsWith}
use Rattle.rbac_terms.specs.Matching.{ResourceWordMatches, FollowsFirstSlash, EndsInStar}
use Rattle.rbac_terms.specs.declared.matching.Rule.{Rule}
use Rattle.rbac_model.specs.Universes.{Covers}
use Rattle.rbac_terms.specs.Targets.{IsResourceText, IsPath}
use Rattle.rbac_covering.specs.Covering.{HasResource, HasUrl}
use Rattle.rbac_lint.specs.Findings.{MakesRedundant}
use Rattle.rbac_lint.specs.RulesByWord.{PlaceLists, places_under, lists_in}
use Rattle.rbac_lint.specs.RulesByWord.{IsAscending, AreAscending}
use Rattle.rbac_lint.specs.declared.prefixes.Prefix.{Prefix}
use Rattle.rbac_lint.specs.declared.rules_by_word.Field.{Field}
use Rattle.rbac_lint.specs.declared.rules_by_word.Field.TheVariants.{Verbs, Groups}
use Rattle.rbac_lint.specs.declared.rules_by_word.Field.TheVariants.{Resources, Names}
use Rattle.rbac_lint.specs.declared.rules_by_word.Field.TheVariants.{Urls, Prefixes}
use Rattle.rbac_lint.specs.declared.rules_by_word.RulesByWord.{RulesByWord}
use Rattle.rbac_lint.specs.declared.candidates.Candidates.{Candidates}

-- every rule that covers this one allows its words in that list; no prefix is asked for
abbrev pub Binds : Field → Rule → Type 0
Binds Verbs b = HasResource b ⊎ HasUrl b
Binds Groups b = HasResource b
Binds Resources b = HasResource b
Binds Names b = HasResource b
Binds Urls b = HasUrl b
Binds Prefixes b = ⊥

-- the word can be asked for: a resource word is a resource text, and a URL word is a path
abbrev pub IsAsked : Field → Text → Type 0
IsAsked Resources w = IsResourceText w
IsAsked Urls w = IsPath w
IsAsked field w = Unit {0}

-- a place is listed under a word that matches this one: `*`, the word itself, or `*/` and what
-- follows the word's first slash; for a URL, the word or a prefix of it
abbrev pub IsUnderMatch : Field → RulesByWord → Text → ℕ → Type 0
IsUnderMatch Urls l w n = Contains (places_under l.urls w) n
    ⊎ ((j : ℕ) × (f : Prefix) × (slice_get l.prefixes.items j ≡ Some f) × BeginsWith w f.text
    × (¬ EndsInStar f.text) × Contains f.places n)
IsUnderMatch field l w n = (u : Text) × ResourceWordMatches u w
    × Contains (places_under (lists_in field l) u) n

-- the place is in one of these lists
abbrev pub StandsIn : List (Bor (List ℕ)) → ℕ → Type 0
StandsIn lists n = Any (λ places. Contains places.now n) lists

-- the place is among the candidates
abbrev pub IsAmong : Candidates → ℕ → Type 0
IsAmong c n = StandsIn c.lists.items n

-- each list of the candidates ascends
abbrev pub Ascend : Candidates → Type 0
Ascend c = All (λ places. IsAscending places.now) c.lists.items

-- each place that is listed under a word which matches this one is among the candidates
abbrev pub FindsEach : Field → RulesByWord → Text → Candidates → Type 0
FindsEach field l w c = Ascend c × ((n : ℕ) → IsUnderMatch field l w n → IsAmong c n)

-- new has old's places, and those under the words with the property
pub record AddsUnder (m : PlaceLists) (P : Text → Type 0) (old new : Candidates) : Type 0 where
  pub kept : (n : ℕ) → IsAmong old n → IsAmong new n
  pub has : (u : Text) (n : ℕ) → P u → Contains (places_under m u) n → IsAmong new n
  pub ascending : AreAscending m → Ascend old → Ascend new

-- new has old's places, and those of the prefixes that the text begins with
pub record AddsPrefixes (prefixes : List Prefix) (text : Text) (old new : Candidates) : Type 0 where
  pub kept : (n : ℕ) → IsAmong old n → IsAmong new n
  pub has : (j : ℕ) (f : Prefix) (n : ℕ) → slice_get prefixes j ≡ Some f → BeginsWith text f.text
      → Contains f.places n → IsAmong new n
  pub ascending : All (λ f. IsAscending f.places) prefixes → Ascend old → Ascend new

-- u is `*/` and the subresource of w
abbrev pub IsOfEach : Text → Text → Type 0
IsOfEach w u = (s : Text) × (u ≡ codes "*/" ++ s) × FollowsFirstSlash w s

-- the places under the words that match a resource text, in ascending lists
abbrev pub AreMatching : PlaceLists → Text → Candidates → Type 0
AreMatching m w c = (AreAscending m → Ascend c)
    × ((u : Text) (n : ℕ) → ResourceWordMatches u w → Contains (places_under m u) n → IsAmong c n)

-- the rule at the place covers this one
abbrev pub CoversAt : List Rule → Rule → ℕ → Type 0
CoversAt rules b n = (a : Rule) × (slice_get rules n ≡ Some a) × Covers a b

-- each rule that covers this one is at one of these places
unfoldable pub IncludeCovers : List Rule → Rule → Candidates → Type 0
IncludeCovers rules b c = Ascend c × ((n : ℕ) → CoversAt rules b n → IsAmong c n)

-- the least number with the property, if one has it
abbrev pub AnswersLeast : (ℕ → Type 0) → Option ℕ → Type 0
AnswersLeast P o = MatchOption o ((n : ℕ) → ¬ P n) (λ n. P n × ((k : ℕ) → P k → n ≤ k))

-- the least place of a rule that makes the one at a place redundant, if one does
abbrev pub IsLeastCoverIfAny : List Rule → ℕ → Option ℕ → Type 0
IsLeastCoverIfAny rules i o = AnswersLeast (MakesRedundant rules i) o

-- a place of the list whose rule makes the one at a place redundant
abbrev pub IsRedundantBy : List Rule → ℕ → List ℕ → ℕ → Type 0
IsRedundantBy rules place places n = MakesRedundant rules place n × Contains places n

-- the least place of the list whose rule makes the one at a place redundant, if it is below the
-- limit, and otherwise the limit
pub record IsSoonest (rules : List Rule) (place : ℕ) (places : List ℕ) (limit n : ℕ) : Type 0 where
  pub below : n ≤ limit
  pub holds : (n ≡ limit) ⊎ MakesRedundant rules place n
  pub least : (k : ℕ) → IsRedundantBy rules place places k → n ≤ k
