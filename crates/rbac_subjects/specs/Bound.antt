-- Which grants a principal has in a namespace, whatever their rules.
use Rattle.std.specs.Prelude.{◌≡◌, ◌≢◌, ℕ, ◌<◌, ◌≤◌, ◌↔◌, Any, Bool, IsTrue, List, [], ◌∷◌, Some}
use Rattle.std.specs.Prelude.{Contains, Option, MatchOption, length, slice_get}
use Rattle.std.specs.declared.cmp.Ordering.TheVariants.{Less}
use Rattle.rbac_terms.specs.Text.{Text, text_cmp}
use Rattle.rbac_terms.specs.Principals.{Who}
use Rattle.rbac_model.specs.Policies.{Held, PolicyView, GrantView, BindingNames, IsOfBinding}
use Rattle.rbac_model.specs.Universes.{LiveForSome}
use Rattle.rbac_subjects.specs.declared.first_runs.Run.{Run}

-- the binding of the grant with that number names the principal
abbrev pub IsNamedBy : PolicyView → Who → ℕ → Type 0
IsNamedBy p who number = (g : GrantView) × (slice_get p.grants number ≡ Some g)
    × BindingNames g.binding who

-- the binding of the grant with that number names the principal, and may be live in that namespace
abbrev pub IsBoundTo : PolicyView → Who → Text → ℕ → Type 0
IsBoundTo p who namespace number = (g : GrantView) × (slice_get p.grants number ≡ Some g)
    × BindingNames g.binding who × LiveForSome g.binding.namespace namespace

-- a RoleBinding in that namespace that has grants names the principal
abbrev pub IsNamedIn : PolicyView → Who → Text → Type 0
IsNamedIn p who namespace = (number : ℕ) × (g : GrantView) × (slice_get p.grants number ≡ Some g)
    × BindingNames g.binding who × (g.binding.namespace ≡ Some namespace)

-- the least namespace, from that one on, where a RoleBinding names the principal
pub record IsNextNamespace (p : PolicyView) (who : Who) (from found : Text) : Type 0 where
  pub after : text_cmp found from ≢ Less
  pub named : IsNamedIn p who found
  pub none_before : (x : Text) → IsNamedIn p who x → text_cmp x found ≡ Less
      → text_cmp x from ≡ Less

-- the least namespace, from that one on, where a RoleBinding names the principal, if there is one
abbrev pub AnswersNextNamespace : PolicyView → Who → Text → Option Text → Type 0
AnswersNextNamespace p who from o =
    MatchOption o ((x : Text) → IsNamedIn p who x → text_cmp x from ≡ Less)
    (IsNextNamespace p who from)

-- a RoleBinding is in that namespace
abbrev pub HasRoleBindings : Held → Text → Type 0
HasRoleBindings held namespace = Any (λ b. b.namespace ≡ Some namespace) held.bindings

-- the grants numbered from `start` up to `end` have the property, no grant from `from` up to
-- `start` has it, and the binding of grant `start` has no further grants from `from` on
pub record IsNextRunOf (p : PolicyView) (P : ℕ → Type 0) (from start end : ℕ) : Type 0 where
  pub after : from ≤ start
  pub some : start < end
  pub bound : (number : ℕ) → start ≤ number → number < end → P number
  pub none_before : (number : ℕ) → from ≤ number → number < start → ¬ P number
  pub whole : (number place : ℕ) → from ≤ number → IsOfBinding p start place
      → IsOfBinding p number place → number < end

-- the next grants, from a number on, that are bound to the principal in that namespace
abbrev pub IsNextRun : PolicyView → Who → Text → ℕ → ℕ → ℕ → Type 0
IsNextRun p who namespace = IsNextRunOf p (IsBoundTo p who namespace)

-- the next grants, from a number on, that have the property, if there are any
abbrev pub AnswersNextRun : PolicyView → (ℕ → Type 0) → ℕ → Option (ℕ × ℕ) → Type 0
AnswersNextRun p P from o = MatchOption o ((number : ℕ) → from ≤ number → ¬ P number)
    (λ run. IsNextRunOf p P from run.0 run.1)

-- exactly the places of the bindings with grants that name the principal
abbrev pub AreNamedPlaces : PolicyView → Who → List ℕ → Type 0
AreNamedPlaces p who places = (number at : ℕ) → IsOfBinding p number at
    → Contains places at ↔ IsNamedBy p who number

-- the run has exactly the grants of the binding at that place
abbrev pub IsRunAt : PolicyView → ℕ → Run → Type 0
IsRunAt p place run = (run.end ≤ length p.grants)
    × ((number at : ℕ) → IsOfBinding p number at
    → ((run.start ≤ number) × (number < run.end)) ↔ (at ≡ place))

-- these are the first runs, from a number on, of the grants that are bound to the principal in that
-- namespace; if `are_all` is true, there are no others
abbrev pub AreRunsFrom : PolicyView → Who → Text → Bool → ℕ → List Run → Type 0
AreRunsFrom p who namespace are_all from [] = IsTrue are_all → (number : ℕ) → from ≤ number
    → ¬ IsBoundTo p who namespace number
AreRunsFrom p who namespace are_all from (run ∷ runs) =
    IsNextRun p who namespace from run.start run.end
    × AreRunsFrom p who namespace are_all run.end runs
