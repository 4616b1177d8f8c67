use Rattle.std.proofs.Common.{◌≤◌, ◌∙◌, sym, length, arith, ap, refl, Option, Some, None}
use Rattle.std.specs.Prelude.{MatchOption}
use Rattle.rbac_subjects.specs.declared.first_runs.Run.{Run}
use Rattle.rbac_matrix.specs.Shown.{line_of}
use Rattle.rbac_matrix.proofs.WalkLemmas.{none_later, some_later}
use Rattle.rbac_matrix.proofs.walk.next_run.Goals as goal

pub returns-then-are_all : goal.returns-then-are_all
returns-then-are_all c =
    let runs = c.args.runs.now in
    let past : length runs.kept.items ≤ c.args.walk.now.later = omega (arith, ap length c.kept-kept.ensures, c.if-walk-kept.false) in
    record { found = none_later c.args.index.now (line_of c.args.line) runs c.args.walk.now.later past c.args.walk.now.end c.requires (sym c.are_all.ensures ∙ c.if-are_all.true) }

of_each : (P Q : Type 0) (R S : Run → Type 0) → (P → Q) → ((run : Run) → R run → S run) → (o : Option Run) → MatchOption o P R → MatchOption o Q S
of_each P Q R S none some None p = none p
of_each P Q R S none some (Some run) r = some run r

pub returns : goal.returns
returns c =
    let runs = c.args.runs.now in
    let past : length runs.kept.items ≤ c.args.walk.now.later = omega (arith, ap length c.kept-kept.ensures, c.if-walk-kept.false) in
    record {
      found = of_each _ _ _ _ (λ none. none) (λ run next. record {
        next = next;
        later = rw c.looked_up_run.ensures.same.1 (some_later c.args.index.now (line_of c.args.line) runs c.args.walk.now.later past run.end (sym c.are_all.ensures ∙ c.if-are_all.false));
        same = c.looked_up_run.ensures.same.0;
      }) c.looked_up_run.result c.looked_up_run.ensures.found;
    }
