-- Which verbs the rules of grants have.
use Rattle.std.specs.Prelude.{◌≡◌, ℕ, ◌<◌, ◌↔◌, All, List, Some, slice_get}
use Rattle.std.specs.Int.{bit_at}
use Rattle.rbac_terms.specs.Text.{Text}
use Rattle.rbac_terms.specs.Matching.{VerbOk}
use Rattle.rbac_terms.specs.declared.matching.Rule.{Rule}
use Rattle.rbac_model.specs.Policies.{PolicyView, GrantView}
use Rattle.rbac_model.specs.Universes.{UniverseView}
use Rattle.rbac_matrix.specs.declared.grant_verbs.GrantVerbs.{GrantVerbs}

-- the bit at that place is 1
abbrev pub HasBit : ℕ → ℕ → Type 0
HasBit bits place = bit_at bits place ≡ 1

-- of the first 64 verbs, the rule has exactly those whose bit is 1
abbrev pub AreBits : Rule → List Text → ℕ → Type 0
AreBits r verbs bits = (place : ℕ) (verb : Text) → place < 64 → slice_get verbs place ≡ Some verb
    → HasBit bits place ↔ VerbOk r verb

-- the bits are those of the grant's rule
abbrev pub AreVerbsOfGrant : PolicyView → UniverseView → GrantVerbs → Type 0
AreVerbsOfGrant p u told = (g : GrantView) → slice_get p.grants told.no ≡ Some g
    → AreBits g.rule.rule u.verbs told.bits

-- the bits of each of these grants are those of its rule
abbrev pub AreVerbsOfGrants : PolicyView → UniverseView → List GrantVerbs → Type 0
AreVerbsOfGrants p u kept = All (AreVerbsOfGrant p u) kept

-- the rule of the grant with that number has the verb
abbrev pub HasVerbAt : PolicyView → ℕ → Text → Type 0
HasVerbAt p number verb = (g : GrantView) × (slice_get p.grants number ≡ Some g)
    × VerbOk g.rule.rule verb
