use Rattle.std.proofs.Common.{◌≤◌, [], ◌∷◌, ap, arith, length}
use Rattle.rbac_use.specs.Rules.{IsResourceLine, use_of}
use Rattle.rbac_use.proofs.Exact.{lines_some, lines_start}
use Rattle.rbac_use.proofs.Places.{more_at}
use Rattle.rbac_use.proofs.RuleLines.{resource_stands, resource_within}
use Rattle.rbac_use.proofs.rules.add_of_group.Goals as goal

pub loop-resource-init : goal.loop-resource-init
loop-resource-init c = lines_start (IsResourceLine (use_of c.args.used) c.args.verb c.args.group) c.args.found.now.items

pub loop-resource-preserved : goal.loop-resource-preserved
loop-resource-preserved c =
    let u = use_of c.args.used in
    more_at (u.place ∷ 1 ∷ u.number ∷ c.args.verb ∷ 1 ∷ c.args.group ∷ []) (IsResourceLine u c.args.verb c.args.group) (resource_stands u c.args.verb c.args.group) c.loop-resource.resource c.args.found.now.items c.loop-resource.found.items c.add_of_resource.new.found.items c.loop-resource.invariant c.in_ok-add_of_resource.ensures

pub returns : goal.returns
returns c =
    let u = use_of c.args.used in
    let all : length u.rule.resources ≤ c.loop-resource.resource = omega (arith, c.loop-resource-test.false, ap length c.as_slice-resources.ensures) in
    lines_some (IsResourceLine u c.args.verb c.args.group) (length u.rule.resources) c.loop-resource.resource c.args.found.now.items c.loop-resource.found.items all (resource_within u c.args.verb c.args.group) c.loop-resource.invariant
