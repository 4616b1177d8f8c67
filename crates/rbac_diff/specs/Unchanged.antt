-- Bindings that grant nothing that the other policy doesn't.
use Rattle.std.specs.Prelude.{◌≡◌, ℕ, List, Bool, false, Some, slice_get, length, Contains}
use Rattle.rbac_terms.specs.declared.granting.Subject.{Subject}
use Rattle.rbac_model.specs.Policies.{PolicyView, GrantView, IsOfBinding}
use Rattle.rbac_covering.specs.Covering.{CoversAll}

-- the rule of each grant of the binding at `place` is covered by the rule of a grant of the other
-- policy's binding at `at`
abbrev pub HasCoveredRules : PolicyView → ℕ → PolicyView → ℕ → Type 0
HasCoveredRules own place other at = (no : ℕ) (g : GrantView) → slice_get own.grants no ≡ Some g
    → IsOfBinding own no place
    → (m : ℕ) × (h : GrantView) × (slice_get other.grants m ≡ Some h) × IsOfBinding other m at
    × CoversAll h.rule.rule g.rule.rule

-- the rule of grant `n` is covered by the rule of the other policy's grant `m`; each grant belongs
-- to a binding
pub record IsGrantCovered (own : PolicyView) (n : ℕ) (other : PolicyView) (m : ℕ) : Type 0 where
  pub mine : GrantView
  pub theirs : GrantView
  pub read : slice_get own.grants n ≡ Some mine
  pub at : slice_get other.grants m ≡ Some theirs
  pub covers : CoversAll theirs.rule.rule mine.rule.rule
  pub own_place : ℕ
  pub own_of : IsOfBinding own n own_place
  pub place : ℕ
  pub of : IsOfBinding other m place

-- each of these subjects is one of those
abbrev pub AreAmong : List Subject → List Subject → Type 0
AreAmong subjects those = (s : Subject) → Contains subjects s → Contains those s

-- for each grant of the binding at that place, the other policy has a grant in the same namespace,
-- to all of its subjects and maybe others, whose rule covers its rule
abbrev pub GrantsNoMore : PolicyView → ℕ → PolicyView → Type 0
GrantsNoMore own place other = (no : ℕ) (g : GrantView) → slice_get own.grants no ≡ Some g
    → IsOfBinding own no place
    → (h : GrantView) × Contains other.grants h × (h.binding.namespace ≡ g.binding.namespace)
    × AreAmong g.binding.subjects h.binding.subjects × CoversAll h.rule.rule g.rule.rule

-- a binding that isn't flagged grants nothing that the other policy doesn't
abbrev pub UnflaggedGrantNoMore : PolicyView → List Bool → PolicyView → Type 0
UnflaggedGrantNoMore own flags other = (place : ℕ) → slice_get flags place ≡ Some false
    → GrantsNoMore own place other

-- each binding has a flag, and a binding that isn't flagged grants nothing that the other policy
-- doesn't
pub record AreFlags (own : PolicyView) (flags : List Bool) (other : PolicyView) : Type 0 where
  pub each : length flags ≡ length own.held.bindings
  pub unflagged : UnflaggedGrantNoMore own flags other
