use Rattle.std.proofs.Common.{◌≡◌, ◌+◌, List, subst, take, take_all}
use Rattle.rbac_use.specs.Grouping.{AreInOrder, key_cmp}
use Rattle.std.specs.declared.cmp.Ordering.TheVariants.{Less}
use Rattle.rbac_use.specs.LeastRules.{HasRulesOf}
use Rattle.rbac_use.specs.declared.grouping.Group.{Group}
use Rattle.rbac_use.specs.declared.least.Least.{Least}
use Rattle.rbac_use.proofs.Parts.{none_of_groups}
use Rattle.rbac_use.proofs.Pushed.{first_pairs, taken_more}
use Rattle.rbac_use.proofs.least.least_from.Goals as goal

pub loop-group-init : goal.loop-group-init
loop-group-init c =
    let least : Least = record { everywhere = c.new.result; namespaces = c.new-2.result } in
    none_of_groups least c.new.ensures c.new-2.ensures.items

pub loop-group-preserved : goal.loop-group-preserved
loop-group-preserved c =
    let groups = c.args.groups.now in
    let i = c.loop-group.group-index in
    let g = c.group-item.result in
    let taken = taken_more groups i g c.loop-group-test.true c.group-item.is in
    let up = first_pairs (λ (a b : Group). key_cmp a.key b.key ≡ Less) groups (i + 1) c.requires in
    rw taken (c.in_ok-add_rule.ensures (take i groups) c.loop-group.invariant (subst AreInOrder taken up))

pub returns : goal.returns
returns c =
    subst (λ (gs : List Group). HasRulesOf gs c.loop-group.least) (take_all c.loop-group.group-index c.args.groups.now c.loop-group-test.false) c.loop-group.invariant
