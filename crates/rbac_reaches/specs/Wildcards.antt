-- The parts of a rule's words that have wildcards, as lists for look-up.
use Rattle.std.specs.Prelude.{◌≡◌, ◌↔◌, ◌⊎◌, ◌++◌, List, Any, Contains, AllPairs, codes}
use Rattle.std.specs.List.Sorted.{IsSorted}
use Rattle.std.specs.declared.cmp.Ordering.TheVariants.{Less}
use Rattle.rbac_terms.specs.Text.{Text, BeginsWith, text_cmp}
use Rattle.rbac_terms.specs.Matching.{IsBeforeStars}

-- the word is for the subresource s of every resource: `*/` and s (Using RBAC Authorization,
-- Referring to resources)
abbrev pub IsForEvery : Text → Text → Type 0
IsForEvery w s = w ≡ codes "*/" ++ s

-- the parts of the words, where IsPart decides what is a part of a word
abbrev pub ArePartsOf : (Text → Text → Type 0) → List Text → List Text → Type 0
ArePartsOf IsPart words parts = (p : Text) → Contains parts p ↔ Any (λ w. IsPart w p) words

-- new has what old has, and the parts of w
abbrev pub AddsPart : (Text → Text → Type 0) → Text → List Text → List Text → Type 0
AddsPart IsPart w old new = (p : Text) → Contains new p ↔ (Contains old p ⊎ IsPart w p)

-- the subresources of the words, in byte order
pub record AreSubresources (words subresources : List Text) : Type 0 where
  pub sorted : IsSorted text_cmp subresources
  pub exact : ArePartsOf IsForEvery words subresources

-- the texts are in byte order, and none begins with an earlier one
abbrev pub AreApart : List Text → Type 0
AreApart texts = AllPairs (λ a b. (text_cmp a b ≡ Less) × (¬ BeginsWith b a)) texts

-- a text begins with one of the prefixes exactly if it begins with the part before the stars of a
-- word that ends in stars; none of the prefixes begins with another
pub record AreUrlPrefixes (words prefixes : List Text) : Type 0 where
  pub apart : AreApart prefixes
  pub exact : (x : Text) → Any (BeginsWith x) prefixes
      ↔ Any (λ w. (q : Text) × IsBeforeStars w q × BeginsWith x q) words
