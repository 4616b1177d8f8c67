use Rattle.std.proofs.Common.{◌++◌, ◌∷◌, [], List, ℕ, get_or, sym, subst, take, arith}
use Rattle.std.specs.List.{AllZip}
use Rattle.std.proofs.lemmas.List.{take_all, take_more}
use Rattle.rbac_subjects.specs.Bound.{IsRunAt}
use Rattle.rbac_subjects.specs.declared.first_runs.Run.{Run}
use Rattle.rbac_subjects.proofs.FirstRunLemmas.{zip_more}
use Rattle.rbac_subjects.proofs.first_runs.runs_at.Goals as goal

pub loop-place-preserved : goal.loop-place-preserved
loop-place-preserved c =
    let places = c.args.places.now in
    let i = c.loop-place.place-index in
    let run : Run = record { start = c.grants_of-start.result.0; end = c.grants_of-start.result.1 } in
    let one : IsRunAt c.args.policy.now (get_or places i 0) run = (c.grants_of-start.ensures.within, λ n at of. c.grants_of-start.ensures.between n at of) in
    record {
      each = rw c.push.ensures.items (subst (λ (ps : List ℕ). AllZip (IsRunAt c.args.policy.now) ps (c.loop-place.runs.items ++ run ∷ [])) (sym (take_more places i 0 c.loop-place-test.true))
          (zip_more (IsRunAt c.args.policy.now) (take i places) c.loop-place.runs.items (get_or places i 0) run c.loop-place.invariant.each one));
      count = omega (arith, c.push.ensures.len, c.loop-place.invariant.count);
    }

pub returns : goal.returns
returns c = subst (λ (ps : List ℕ). AllZip (IsRunAt c.args.policy.now) ps c.loop-place.runs.items) (take_all c.loop-place.place-index c.args.places.now c.loop-place-test.false) c.loop-place.invariant.each
