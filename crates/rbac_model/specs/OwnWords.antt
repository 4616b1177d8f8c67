-- The words of a rule, taken as texts that a request asks for.
use Rattle.std.specs.Prelude.{◌≡◌, ◌≢◌, ℕ, ◌+◌, ◌⊎◌, [], ◌∷◌, ◌++◌, replicate, codes, All, Any}
use Rattle.rbac_terms.specs.Text.{Text, star}
use Rattle.rbac_terms.specs.Targets.{IsPath}
use Rattle.rbac_terms.specs.Matching.{EndsInStar, UrlWordMatches}
use Rattle.rbac_terms.specs.declared.matching.Rule.{Rule}

-- the part of a URL sample before its star: the word without its stars, or `/` if nothing is left
abbrev pub sample_prefix : Text → Text
sample_prefix [] = codes "/"
sample_prefix (c ∷ q) = c ∷ q

-- x is the sample of a URL word: the word itself, or, if it ends in stars, the word with only one
-- star; `/*` if the word is nothing but stars (own)
abbrev pub IsUrlSample : Text → Text → Type 0
IsUrlSample w x = ((¬ EndsInStar w) × (x ≡ w))
    ⊎ ((q : Text) × (k : ℕ) × (w ≡ q ++ replicate (k + 1) star) × (¬ EndsInStar q)
    × (x ≡ sample_prefix q ++ star ∷ []))

-- the sample of a URL word is a path; otherwise the word matches no path
unfoldable pub GivesPath : Text → Type 0
GivesPath w = (x : Text) × IsUrlSample w x × IsPath x

-- a rule allows this URL word, taken as a text
unfoldable pub AllowsUrlWord : Rule → Text → Type 0
AllowsUrlWord r w = (x : Text) → IsUrlSample w x → Any (λ u. UrlWordMatches u x) r.urls

-- nothing but stars, and at least one
abbrev pub IsStars : Text → Type 0
IsStars t = (t ≢ []) × All (λ b. b ≡ star) t

-- the word matches `/*`, and so every path
unfoldable pub MatchesEachPath : Text → Type 0
MatchesEachPath w = UrlWordMatches w (codes "/*")
