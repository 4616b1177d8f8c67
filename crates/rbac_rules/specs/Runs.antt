-- The grants of one binding whose rules somebody has.
use Rattle.std.specs.Prelude.{◌≡◌, ℕ, ◌+◌, ◌<◌, ◌≤◌, ◌↔◌, Some, slice_get, length}
use Rattle.rbac_terms.specs.Principals.{Who}
use Rattle.rbac_terms.specs.declared.scope.Scope.{Scope}
use Rattle.rbac_model.specs.Policies.{PolicyView, GrantView, IsOfBinding}
use Rattle.rbac_rules.specs.Effective.{Has, IsByFirstSubject}
use Rattle.rbac_rules.specs.declared.run.Run.{Run}

-- somebody has the rule of the grant with that number, which belongs to the binding at that place
abbrev pub HasAt : PolicyView → Who → Scope → ℕ → ℕ → Type 0
HasAt p who scope n at = IsOfBinding p n at
    × ((g : GrantView) × (slice_get p.grants n ≡ Some g) × Has who scope g)

-- somebody has the rule of no grant of the bindings at these places
abbrev pub HasNone : PolicyView → Who → Scope → ℕ → ℕ → Type 0
HasNone p who scope from to = (n at : ℕ) → from ≤ at → at < to → ¬ HasAt p who scope n at

-- somebody has the rules of the grants of the run that are left, by the first subject that names
-- them; the other grants that are left are those of the bindings from the run's next place on
pub record IsEffectiveRun (p : PolicyView) (who : Who) (scope : Scope) (r : Run) : Type 0 where
  pub ordered : r.no ≤ r.end
  pub within : r.end ≤ length p.grants
  pub had : (n : ℕ) (g : GrantView) → r.no ≤ n → n < r.end → slice_get p.grants n ≡ Some g
      → Has who scope g
      × IsByFirstSubject who (record { grant = g; subject_place = r.subject_place })
  pub ends : (n at : ℕ) → IsOfBinding p n at → (n < r.end) ↔ (at < r.next_place)

-- all grants of the binding at that place, whose rules somebody has
pub record IsRunOf (p : PolicyView) (who : Who) (scope : Scope) (place : ℕ)
    (r : Run) : Type 0 where
  pub run : IsEffectiveRun p who scope r
  pub some : r.no < r.end
  pub next : r.next_place ≡ place + 1
  pub starts : (n at : ℕ) → IsOfBinding p n at → (n < r.no) ↔ (at < place)

-- all grants of the first binding, from that place on, whose rules somebody has
abbrev pub IsRunFrom : PolicyView → Who → Scope → ℕ → Run → Type 0
IsRunFrom p who scope from r = (place : ℕ) × (from ≤ place) × IsRunOf p who scope place r
    × HasNone p who scope from place

-- a run that has grants left; somebody has the rules of none of the grants that are passed over
pub record IsNextEffectiveRun (p : PolicyView) (who : Who) (scope : Scope) (from : ℕ)
    (r : Run) : Type 0 where
  pub run : IsEffectiveRun p who scope r
  pub some : r.no < r.end
  pub past : from ≤ r.no
  pub none_between : (n at : ℕ) → from ≤ n → n < r.no → ¬ HasAt p who scope n at
