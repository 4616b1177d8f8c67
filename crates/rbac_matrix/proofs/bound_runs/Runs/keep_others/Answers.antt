use Rattle.std.proofs.Common.{◌≡◌, ◌≤◌, ℕ, ap, arith, subst, sym, [], ◌∷◌}
use Rattle.std.specs.Prelude.{false}
use Rattle.rbac_subjects.specs.Bound.{IsBoundTo, IsNextRun}
use Rattle.rbac_subjects.specs.declared.first_runs.Run.{Run}
use Rattle.rbac_matrix.specs.Shown.{line_of}
use Rattle.rbac_matrix.specs.Cursors.{end_after}
use Rattle.rbac_matrix.specs.declared.bound_runs.Runs.{Runs}
use Rattle.rbac_matrix.proofs.RunLemmas.{end_then, runs_end, runs_then}
use Rattle.rbac_matrix.proofs.bound_runs.Runs.keep_others.Goals as goal

pub returns-in_default-clause-runs : goal.returns-in_default-clause-runs
returns-in_default-clause-runs c =
    let l = line_of c.args.line in
    let none : (k : ℕ) → c.loop-subjects.from ≤ k → IsBoundTo c.args.index.now l.who l.namespace k → ⊥ = rw (← c.subjects-subjects.ensures) c.in_default.ensures in
    runs_end c.args.index.now l.who l.namespace c.loop-subjects.self.are_all 0 c.loop-subjects.self.kept.items c.loop-subjects.invariant.runs (λ k low. none k (omega (arith, low, c.loop-subjects.invariant.from)))

pub loop-subjects-preserved : goal.loop-subjects-preserved
loop-subjects-preserved c =
    let l = line_of c.args.line in
    let items = c.loop-subjects.self.kept.items in
    let are_all = c.loop-subjects.self.are_all in
    let run : Run = record { start = c.in-Some.start; end = c.in-Some.end } in
    let found : IsNextRun c.args.index.now l.who l.namespace c.loop-subjects.from c.in-Some.start c.in-Some.end = rw (← c.subjects-subjects.ensures) c.in-Some.ensures in
    let next = subst (λ (n : ℕ). IsNextRun c.args.index.now l.who l.namespace n c.in-Some.start c.in-Some.end) c.loop-subjects.invariant.from found in
    record {
      runs = rw c.push.ensures.items (runs_then c.args.index.now l.who l.namespace are_all are_all 0 items (run ∷ []) c.loop-subjects.invariant.runs (next, λ all. absurd (let none : are_all ≡ false = c.loop-subjects.invariant.others in cc)));
      from = rw c.push.ensures.items (sym (end_then 0 items run));
      others = c.loop-subjects.invariant.others;
      same = ap (λ (r : Runs). record r { kept = c.push.new.self }) c.loop-subjects.invariant.same;
    }
