use Rattle.std.proofs.Common.{◌<◌, ◌∙◌, List, ap, arith, drop, length, rules, subst, take, ℕ}
use Rattle.std.proofs.lemmas.List.{drop_min, take_min}
use Rattle.rbac_question.specs.declared.command.Action.TheVariants.{Diff}
use Rattle.rbac_cli.specs.Exports.{AreInputsRefused, IsSideAfter, IsSideBefore, IsChangeRefused}
use Rattle.rbac_cli.proofs.Loads.{side_fails}
use Rattle.rbac_cli.proofs.exports.pair_from.Goals as goal

pub sides_of-requires : goal.sides_of-requires
sides_of-requires c =
    let few : length c.args.inputs.now < 18446744073709551616 = search rules in
    omega (arith, few, c.split_at.ensures.front_len, c.split_at.ensures.back_len)

pub returns-in-Ok-clause-ok : goal.returns-in-Ok-clause-ok
returns-in-Ok-clause-ok c = λ log.
    let inputs = c.args.inputs.now in
    let first = c.split_at.ensures.front ∙ ap (λ (n : ℕ). take n inputs) c.min.ensures ∙ take_min c.args.before inputs in
    let others = c.split_at.ensures.back ∙ ap (λ (n : ℕ). drop n inputs) c.min.ensures ∙ drop_min c.args.before inputs in (
      subst (λ (xs : List (List ℕ)). IsSideBefore xs c.in-Ok.old) first c.in-Ok.ensures.ok.0,
      subst (λ (xs : List (List ℕ)). IsSideAfter c.args.change xs (drop c.args.before inputs) c.in-Ok.new) first
          (subst (λ (ys : List (List ℕ)). IsSideAfter c.args.change c.split_at.result.0.now ys c.in-Ok.new) others c.in-Ok.ensures.ok.1),
    )

pub returns-in-Err-clause-fault : goal.returns-in-Err-clause-fault
returns-in-Err-clause-fault c =
    let inputs = c.args.inputs.now in
    let first = c.split_at.ensures.front ∙ ap (λ (n : ℕ). take n inputs) c.min.ensures ∙ take_min c.args.before inputs in
    let others = c.split_at.ensures.back ∙ ap (λ (n : ℕ). drop n inputs) c.min.ensures ∙ drop_min c.args.before inputs in
    let fault = c.in-Err.fault in
    side_fails (AreInputsRefused (Diff c.args.before c.args.change) inputs) fault c.unloaded.result
    (λ refused. subst (λ (xs : List (List ℕ)). IsChangeRefused c.args.change xs (drop c.args.before inputs) fault) first
    (subst (λ (ys : List (List ℕ)). IsChangeRefused c.args.change c.split_at.result.0.now ys fault) others (c.in-Err.ensures.fault refused)))
    c.unloaded.ensures.refused c.unloaded.ensures.memory
