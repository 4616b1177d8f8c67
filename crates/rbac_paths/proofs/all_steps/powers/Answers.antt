use Rattle.std.proofs.Common.{◌++◌, ◌∷◌, [], List, get_or, take, inl, inr, refl, sym, subst, arith}
use Rattle.std.proofs.lemmas.List.{take_all, take_more}
use Rattle.rbac_paths.specs.Powers.{PowerView}
use Rattle.rbac_steps.specs.Steps.{steps}
use Rattle.rbac_steps.specs.declared.steps.Step.{Step}
use Rattle.rbac_paths.proofs.AllSteps.{ArePowersTo, to_next, to_none}
use Rattle.rbac_paths.proofs.Telling.{tell_all}
use Rattle.rbac_paths.proofs.all_steps.powers.Goals as goal

pub loop-step-init : goal.loop-step-init
loop-step-init c = (to_none c.args.policy.now c.new-all.result.items c.new-all.ensures.items, inl refl)

pub loop-step-preserved : goal.loop-step-preserved
loop-step-preserved c =
    let p = c.args.policy.now in
    let i = c.loop-step.step-index in
    let step = get_or steps i _ in
    let own = c.in_ok-add_step.ensures.added in (
      subst (λ (passed : List Step). ArePowersTo p passed c.add_step.new.all.items) (sym (take_more steps i _ c.loop-step-test.true))
          (subst (λ (xs : List PowerView). ArePowersTo p (take i steps ++ step ∷ []) xs) (sym own.3)
          (to_next p (take i steps) step c.loop-step.all.items own.0 c.loop-step.invariant.0 own.1 own.2)),
      inr c.in_ok-add_step.ensures.policy,
    )

pub returns : goal.returns
returns c =
    let p = c.args.policy.now in
    let all = take_all c.loop-step.step-index steps (omega (arith, c.loop-step-test.false)) in
    let to : ArePowersTo p steps c.loop-step.all.items = subst (λ (passed : List Step). ArePowersTo p passed c.loop-step.all.items) all c.loop-step.invariant.0 in
    elim c.loop-step.invariant.1 [
      | inl none ↦ absurd (omega (arith, none, c.loop-step-test.false))
      | inr ok ↦ rw c.of.ensures (record { powers = to.powers; tell = tell_all p ok c.loop-step.all.items to })
    ]
