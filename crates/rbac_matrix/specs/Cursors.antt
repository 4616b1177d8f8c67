-- The cursors of a line: the grants that may allow something on it.
use Rattle.std.specs.Prelude.{◌≡◌, ℕ, ◌+◌, ◌<◌, ◌≤◌, ◌-◌, ◌⊎◌, IsTrue, List, [], ◌∷◌, Some}
use Rattle.std.specs.Prelude.{slice_get, drop, length}
use Rattle.rbac_model.specs.Policies.{PolicyView, GrantView}
use Rattle.rbac_model.specs.Universes.{UniverseView, IsCursor}
use Rattle.rbac_terms.specs.Text.{Text}
use Rattle.rbac_terms.specs.Principals.{Who}
use Rattle.rbac_subjects.specs.Bound.{HasRoleBindings, IsBoundTo, IsNextRun, AreRunsFrom}
use Rattle.rbac_subjects.specs.declared.first_runs.Run.{Run}
use Rattle.rbac_matrix.specs.GrantVerbs.{AreVerbsOfGrants}
use Rattle.rbac_matrix.specs.Lines.{LineView, IsLineAt, line, lines_from}
use Rattle.rbac_matrix.specs.VerbPlaces.{LacksPlace}
use Rattle.rbac_matrix.specs.declared.bound_runs.Runs.{Runs}
use Rattle.rbac_matrix.specs.declared.line.Place.{Place}
use Rattle.rbac_matrix.specs.declared.walk.Walk.{Walk}

-- the grant with that number is a cursor of the line
pub record IsCursorAt (p : PolicyView) (l : LineView) (number : ℕ) : Type 0 where
  pub grant : GrantView
  pub at : slice_get p.grants number ≡ Some grant
  pub is : IsCursor l.who l.namespace l.verb grant

-- the grant with that number belongs to a binding that names the line's principal and may be live
-- on the line
unfoldable pub IsBoundOn : PolicyView → LineView → ℕ → Type 0
IsBoundOn p l number = IsBoundTo p l.who l.namespace number

-- these are the first runs, from a number on, of the grants for which `IsBoundOn` holds; if
-- `are_all` is true, there are no others
abbrev pub AreRunsOn : PolicyView → LineView → Runs → ℕ → List Run → Type 0
AreRunsOn p l runs from later = AreRunsFrom p l.who l.namespace runs.are_all from later

-- these are the first runs of the line
abbrev pub AreRuns : PolicyView → LineView → Runs → Type 0
AreRuns p l runs = AreRunsOn p l runs 0 runs.kept.items

-- the end of the last run, or that number if there are no runs
abbrev pub end_after : ℕ → List Run → ℕ
end_after number [] = number
end_after number (run ∷ runs) = end_after run.end runs

-- if the set lacks the place of a verb, no grant is a cursor of the principal's line for this verb
-- in the namespace
abbrev pub AreVerbs : PolicyView → UniverseView → Who → Text → List ℕ → Type 0
AreVerbs p u who namespace words = (place : ℕ) (verb : Text) → slice_get u.verbs place ≡ Some verb
    → LacksPlace words place → (number : ℕ) → ¬ IsCursorAt p (line who namespace verb) number

-- for each grant that the runs keep verbs of, these are the verbs of the grant's rule
abbrev pub KeepGrantVerbs : PolicyView → UniverseView → Runs → Type 0
KeepGrantVerbs p u runs = AreVerbsOfGrants p u runs.grants.items

-- these are the first runs of the line, with the verbs of its principal's grants in its namespace
abbrev pub AreRunsOf : PolicyView → UniverseView → LineView → Runs → Type 0
AreRunsOf p u l runs = AreRuns p l runs × AreVerbs p u l.who l.namespace runs.verbs.words.items
    × KeepGrantVerbs p u runs

-- if `is_bare` is true, the principal has these runs in each namespace without a RoleBinding
abbrev pub ServeBare : PolicyView → UniverseView → Who → Runs → Type 0
ServeBare p u who runs = IsTrue runs.is_bare → (namespace verb : Text)
    → ¬ HasRoleBindings p.held namespace → AreRunsOf p u (line who namespace verb) runs

-- the runs are those of the line at the place, if a line is there
abbrev pub AreRunsAt : PolicyView → UniverseView → Place → Runs → Type 0
AreRunsAt p u at runs = (l : LineView) (ls : List LineView) → lines_from u at ≡ l ∷ ls
    → AreRunsOf p u l runs × ServeBare p u l.who runs

-- what is known of the runs before the line at the place is entered: they are this line's, unless
-- it is the first line of its namespace; and they serve its principal as `ServeBare` states, unless
-- it is the first line of its principal
pub record AreKnownAt (p : PolicyView) (u : UniverseView) (at : Place) (runs : Runs) : Type 0 where
  pub verbs : 0 < at.verb → (l : LineView) → IsLineAt u at l → AreRunsOf p u l runs
  pub bare : (0 < at.namespace) ⊎ (0 < at.verb) → (who : Who)
      → slice_get u.principals at.principal ≡ Some who → ServeBare p u who runs
  pub told : KeepGrantVerbs p u runs

-- the walk, set back to a number in its current run
abbrev pub back_at : Walk → ℕ → Walk
back_at w number = record { next = number; end = w.end; later = w.later; steps = w.steps }

-- the walk will still come to the cursor with that number
abbrev pub IsAhead : PolicyView → LineView → Walk → ℕ → Type 0
IsAhead p l w number = IsCursorAt p l number × (w.next ≤ number)

-- the rest of the walk's current run has only grants for which `IsBoundOn` holds, and the kept runs
-- from `later` on are the next ones
pub record IsWithin (p : PolicyView) (l : LineView) (runs : Runs) (w : Walk) : Type 0 where
  pub order : w.next ≤ w.end
  pub bound : (number : ℕ) → w.next ≤ number → number < w.end → IsBoundOn p l number
  pub later : AreRunsOn p l runs w.end (drop w.later runs.kept.items)

-- the step from `old` to `new` took this run, which was the next one; the runs after it are left
pub record IsNextRunOn (p : PolicyView) (l : LineView) (runs : Runs) (old new : Walk)
    (run : Run) : Type 0 where
  pub next : IsNextRun p l.who l.namespace old.end run.start run.end
  pub later : AreRunsOn p l runs run.end (drop new.later runs.kept.items)
  pub same : new.next ≡ old.next

-- the step from `old` to `new` came to that number, and passed no number before it for which
-- `IsBoundOn` holds
pub record ComesTo (p : PolicyView) (l : LineView) (old new : Walk) (number : ℕ) : Type 0 where
  pub on : old.next ≤ number
  pub passed : new.next ≡ number + 1
  pub first : (other : ℕ) → old.next ≤ other → other < number → ¬ IsBoundOn p l other

-- the step from `old` to `new` came to the next number for which `IsBoundOn` holds
abbrev pub IsNextBound : PolicyView → LineView → Walk → Walk → ℕ → Type 0
IsNextBound p l old new number = ComesTo p l old new number × IsBoundOn p l number

-- how many grants the walk will still look at, at most
abbrev pub steps_left : PolicyView → Walk → ℕ
steps_left p w = length p.grants - w.next
