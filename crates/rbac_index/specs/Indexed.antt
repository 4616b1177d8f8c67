use Rattle.std.specs.Prelude.{◌≡◌, ℕ, ◌+◌, ◌<◌, ◌≤◌, ◌^◌, ◌↔◌, List, [], All, Contains, map}
use Rattle.std.specs.Prelude.{slice_get, slice_index_or, Some, length}
use Rattle.std.specs.List.Sorted.{IsStrictlyIncreasing}
use Rattle.rbac_terms.specs.Text.{Text}
use Rattle.rbac_terms.specs.declared.matching.Rule.{Rule}
use Rattle.rbac_model.specs.Policies.{PolicyView, GrantView}
use Rattle.rbac_index.specs.declared.rule_lists.RuleLists.{RuleLists}
use Rattle.rbac_index.specs.declared.rule_rows.Written.{Written}
use Rattle.rbac_index.specs.Requested.{RequestedView, AllowsRequested}
use Rattle.rbac_index.specs.RuleLists.{AreListed}
use Rattle.rbac_index.specs.Written.{written_rules, IsRuleAt, AreWritten, bare_rules}

-- the rule of the grant with that number allows the verb on what is requested
abbrev pub AllowsAt : PolicyView → Text → RequestedView → ℕ → Type 0
AllowsAt p verb t n = (g : GrantView) × (slice_get p.grants n ≡ Some g)
    × AllowsRequested g.rule.rule verb t

-- the numbers, ascending, of exactly the grants whose rule allows the verb on what is requested
pub record AreCandidates (p : PolicyView) (verb : Text) (t : RequestedView) (ns : List ℕ)
    : Type 0 where
  pub ascending : IsStrictlyIncreasing ns
  pub exact : (n : ℕ) → Contains ns n ↔ AllowsAt p verb t n

-- the grant with that number is by that rule
abbrev pub IsByRule : PolicyView → Rule → ℕ → Type 0
IsByRule p r n = (g : GrantView) × (slice_get p.grants n ≡ Some g) × (g.rule.rule ≡ r)

-- the grants from that number on are by these rules, one after the other
abbrev pub IsRun : PolicyView → List Rule → ℕ → Type 0
IsRun p rs start = (k : ℕ) (r : Rule) → slice_get rs k ≡ Some r → IsByRule p r (start + k)

-- where the runs of grants by the rules of each row begin: all grants of a run have numbers below
-- `count`, and each grant below `count` is in a run
pub record AreStarts (p : PolicyView) (rows : List (List Rule)) (count : ℕ)
    (starts : List (List ℕ)) : Type 0 where
  pub len : length starts ≡ length rows
  pub sound : (row start : ℕ) (rs : List Rule) → slice_get rows row ≡ Some rs
      → Contains (slice_index_or starts row []) start
      → (start + length rs ≤ count) × IsRun p rs start
  pub complete : (n : ℕ) → n < count
      → (row start place : ℕ) × (r : Rule) × IsRuleAt rows row place r
      × Contains (slice_index_or starts row []) start × (n ≡ start + place)

-- an index has the rules of all roles, lists them by their words, and lists the grants by runs
pub record IsIndexOf (p : PolicyView) (ws : List Written) (l : RuleLists)
    (starts : List (List ℕ)) : Type 0 where
  pub written : AreWritten (written_rules p.held) ws
  pub listed : AreListed (bare_rules ws) (length ws) l
  pub granted : AreStarts p (written_rules p.held) (length p.grants) starts
  pub few : length p.grants < 2 ^ 32

-- the numbers of the grants by a rule
abbrev pub numbers_by : List (List ℕ) → Written → List ℕ
numbers_by starts w = map (λ start. start + w.place) (slice_index_or starts w.row [])

-- the rule's row exists, and the numbers of its grants fit in a u32
abbrev pub HaveNumbers : List (List ℕ) → Written → Type 0
HaveNumbers starts w = (w.row < length starts)
    × All (λ start. start + w.place < 2 ^ 32) (slice_index_or starts w.row [])

-- the grant with that number is by a rule, at one of these places, that allows the verb on what is
-- requested
abbrev pub IsAllowedBy : List Written → List (List ℕ) → List ℕ → Text → RequestedView → ℕ → Type 0
IsAllowedBy ws starts places verb t n = (at : ℕ) × Contains places at
    × ((w : Written) × (slice_get ws at ≡ Some w) × AllowsRequested w.rule.now verb t
    × Contains (numbers_by starts w) n)

-- the grants with these numbers are by the same rule
abbrev pub AreAlike : PolicyView → ℕ → ℕ → Type 0
AreAlike p m n = (g h : GrantView) → slice_get p.grants m ≡ Some g → slice_get p.grants n ≡ Some h
    → g.rule.rule ≡ h.rule.rule
