-- runs that follow other runs
use Rattle.std.proofs.Common.{◌≡◌, ℕ, ◌+◌, ◌-◌, ◌<◌, ◌≤◌, ◌++◌, ap, arith, length, refl, slice_get, subst, Bool, List, [], ◌∷◌}
use Rattle.std.specs.Prelude.{None, Some, true}
use Rattle.std.proofs.lemmas.Option.{same_Some}
use Rattle.rbac_terms.specs.Text.{Text}
use Rattle.rbac_terms.specs.Principals.{Who}
use Rattle.rbac_model.specs.Policies.{PolicyView}
use Rattle.rbac_subjects.specs.Bound.{IsBoundTo, AreRunsFrom}
use Rattle.rbac_subjects.specs.declared.first_runs.Run.{Run}
use Rattle.rbac_matrix.specs.Cursors.{end_after}

module _ (p : PolicyView) (who : Who) (namespace : Text) where
  -- the first runs, and the runs that follow them, are the first runs together
  pub runs_then : (before after : Bool) (from : ℕ) (runs rest : List Run) → AreRunsFrom p who namespace before from runs → AreRunsFrom p who namespace after (end_after from runs) rest → AreRunsFrom p who namespace after from (runs ++ rest)
  runs_then before after from [] rest are more = more
  runs_then before after from (run ∷ runs) rest are more = (are.0, runs_then before after run.end runs rest are.1 more)

  -- if no grant follows the last run, these are all runs
  pub runs_end : (before : Bool) (from : ℕ) (runs : List Run) → AreRunsFrom p who namespace before from runs → ((k : ℕ) → end_after from runs ≤ k → IsBoundTo p who namespace k → ⊥) → AreRunsFrom p who namespace true from runs
  runs_end before from [] are none = λ all. none
  runs_end before from (run ∷ runs) are none = (are.0, runs_end before run.end runs are.1 none)

pub end_then : (from : ℕ) (runs : List Run) (run : Run) → end_after from (runs ++ run ∷ []) ≡ run.end
end_then from [] run = refl
end_then from (first ∷ runs) run = end_then first.end runs run

-- the end of several runs is that of the last one
some_at : (first : Run) (runs : List Run) → slice_get (first ∷ runs) (length runs) ≡ None → ⊥
some_at first [] at = let both : Some first ≡ None = at in cc
some_at first (second ∷ runs) at = some_at second runs at

ends_at : (from : ℕ) (first : Run) (runs : List Run) (run : Run) → slice_get (first ∷ runs) (length runs) ≡ Some run → end_after from (first ∷ runs) ≡ run.end
ends_at from first [] run at = ap (λ (r : Run). r.end) (same_Some first run at)
ends_at from first (second ∷ runs) run at = ends_at first.end second runs run at

pub end_last : (from : ℕ) (runs : List Run) (run : Run) → slice_get runs (length runs - 1) ≡ Some run → end_after from runs ≡ run.end
end_last from [] run at = absurd (let both : None ≡ Some run = at in cc)
end_last from (first ∷ runs) run at =
    let e : length (first ∷ runs) - 1 ≡ length runs = omega arith in
    ends_at from first runs run (subst (λ (n : ℕ). slice_get (first ∷ runs) n ≡ Some run) e at)

pub end_none : (from : ℕ) (runs : List Run) → slice_get runs (length runs - 1) ≡ None → end_after from runs ≡ from
end_none from [] at = refl
end_none from (first ∷ runs) at =
    let e : length (first ∷ runs) - 1 ≡ length runs = omega arith in
    absurd (some_at first runs (subst (λ (n : ℕ). slice_get (first ∷ runs) n ≡ None) e at))
