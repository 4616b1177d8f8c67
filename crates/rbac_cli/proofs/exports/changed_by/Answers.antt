use Rattle.std.proofs.Common.{◌<◌, ◌∙◌, ap, arith, drop, length, rules, take, ℕ}
use Rattle.std.proofs.lemmas.List.{drop_min, take_min}
use Rattle.std.proofs.lemmas.Result.{IfErr-weaker, IfOk-weaker}
use Rattle.rbac_cli.proofs.Loads.{over_fault, over_ok}
use Rattle.rbac_cli.proofs.exports.changed_by.Goals as goal

pub changed_over-requires : goal.changed_over-requires
changed_over-requires c =
    let few : length c.args.others.now < 18446744073709551616 = search rules in
    omega (arith, few, c.split_at.ensures.front_len, c.split_at.ensures.back_len)

pub returns-in-Over-clause-ok : goal.returns-in-Over-clause-ok
returns-in-Over-clause-ok c =
    let others = c.args.others.now in
    let count = c.in-Over.count in
    let first = c.split_at.ensures.front ∙ ap (λ (n : ℕ). take n others) c.min.ensures ∙ take_min count others in
    let rest = c.split_at.ensures.back ∙ ap (λ (n : ℕ). drop n others) c.min.ensures ∙ drop_min count others in
    rw c.in-Over.is (IfOk-weaker c.changed_over.result _ _
    (λ v h. over_ok count others c.split_at.result.0.now c.split_at.result.1.now first rest c.args.objects.now v.items h.0 h.1 h.2) c.changed_over.ensures.ok)

pub returns-in-Over-clause-fault : goal.returns-in-Over-clause-fault
returns-in-Over-clause-fault c =
    let others = c.args.others.now in
    let count = c.in-Over.count in
    let first = c.split_at.ensures.front ∙ ap (λ (n : ℕ). take n others) c.min.ensures ∙ take_min count others in
    let rest = c.split_at.ensures.back ∙ ap (λ (n : ℕ). drop n others) c.min.ensures ∙ drop_min count others in
    IfErr-weaker c.changed_over.result _ _
    (λ e h. λ refused. over_fault count others c.split_at.result.0.now c.split_at.result.1.now first rest e (h refused)) c.changed_over.ensures.fault
