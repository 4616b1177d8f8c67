-- The places of a universe's targets that the rules of grants match.
use Rattle.std.specs.Prelude.{◌≡◌, ℕ, ◌+◌, ◌-◌, ◌^◌, ◌<◌, ◌≤◌, ◌↔◌, min, max, List, Contains, Some}
use Rattle.std.specs.Prelude.{map, slice_get, length}
use Rattle.std.specs.List.Sorted.{IsStrictlyIncreasing}
use Rattle.rbac_terms.specs.Targets.{What}
use Rattle.rbac_terms.specs.Matching.{TargetOk}
use Rattle.rbac_terms.specs.declared.matching.Rule.{Rule}
use Rattle.rbac_model.specs.Policies.{PolicyView, GrantView}
use Rattle.rbac_model.specs.Universes.{UniverseView}

-- a meter after n more reads: it saturates at the largest u128 (own)
abbrev pub raised : ℕ → ℕ → ℕ
raised meter n = max meter (min (meter + n) (2 ^ 128 - 1))

-- the rule matches the target at that place, verbs aside
abbrev pub MatchesAt : Rule → List What → ℕ → Type 0
MatchesAt r ts place = (t : What) × (slice_get ts place ≡ Some t) × TargetOk r t

-- the places, ascending, of exactly the targets that the rule matches, verbs aside
pub record IsReach (r : Rule) (ts : List What) (places : List ℕ) : Type 0 where
  pub ascending : IsStrictlyIncreasing places
  pub exact : (place : ℕ) → Contains places place ↔ MatchesAt r ts place

-- the places of the targets that the rule matches, among the first `count` targets
pub record IsReachBelow (r : Rule) (ts : List What) (count : ℕ) (places : List ℕ) : Type 0 where
  pub ascending : IsStrictlyIncreasing places
  pub exact : (place : ℕ) → Contains places place ↔ ((place < count) × MatchesAt r ts place)
  pub short : length places ≤ count

-- the reach of the rule of the grant with that number, among the targets of a universe
abbrev pub IsReachAt : PolicyView → UniverseView → ℕ → List ℕ → Type 0
IsReachAt p u number places = (g : GrantView) × (slice_get p.grants number ≡ Some g)
    × IsReach g.rule.rule (map (λ t. t.0) u.targets) places

-- the reaches of the first `count` grants, each at its grant's number
pub record AreReachesBelow (p : PolicyView) (u : UniverseView) (count : ℕ)
    (reaches : List (List ℕ)) : Type 0 where
  pub len : length reaches ≡ count
  pub each : (number : ℕ) (places : List ℕ) → slice_get reaches number ≡ Some places
      → IsReachAt p u number places

-- as many reaches as grants, each at its grant's number
abbrev pub AreReaches : PolicyView → UniverseView → List (List ℕ) → Type 0
AreReaches p u reaches = AreReachesBelow p u (length p.grants) reaches
