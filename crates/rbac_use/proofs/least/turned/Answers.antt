use Rattle.std.proofs.Common.{◌↔◌, Any, Contains, List, subst, take, take_all}
use Rattle.rbac_use.specs.LeastRules.{IsTurned}
use Rattle.rbac_use.specs.declared.grouping.Group.{Group}
use Rattle.rbac_use.proofs.Pushed.{one_step, taken_more}
use Rattle.rbac_use.proofs.least.turned.Goals as goal

pub loop-group-preserved : goal.loop-group-preserved
loop-group-preserved c x =
    let groups = c.args.groups.now in
    let i = c.loop-group.group-index in
    let g = c.group-item.result in
    rw (taken_more groups i g c.loop-group-test.true c.group-item.is)
    (one_step (λ (a : Group). IsTurned a x) (take i groups) g (Contains c.loop-group.pairs.items x) (Contains c.add_turned.new.pairs.items x) (c.loop-group.invariant x) (c.in_ok-add_turned.ensures x))

pub returns : goal.returns
returns c x =
    subst (λ (gs : List Group). Contains c.loop-group.pairs.items x ↔ Any (λ g. IsTurned g x) gs)
    (take_all c.loop-group.group-index c.args.groups.now c.loop-group-test.false) (c.loop-group.invariant x)
