use Rattle.std.proofs.Common.{◌≤◌, [], ◌∷◌, ap, arith, length}
use Rattle.rbac_use.specs.Rules.{IsGroupLine, use_of}
use Rattle.rbac_use.proofs.Exact.{lines_some, lines_start}
use Rattle.rbac_use.proofs.Places.{more_at}
use Rattle.rbac_use.proofs.RuleLines.{group_stands, group_within}
use Rattle.rbac_use.proofs.rules.add_resources.Goals as goal

pub loop-group-init : goal.loop-group-init
loop-group-init c = lines_start (IsGroupLine (use_of c.args.used) c.args.verb) c.args.found.now.items

pub loop-group-preserved : goal.loop-group-preserved
loop-group-preserved c =
    let u = use_of c.args.used in
    more_at (u.place ∷ 1 ∷ u.number ∷ c.args.verb ∷ 1 ∷ []) (IsGroupLine u c.args.verb) (group_stands u c.args.verb) c.loop-group.group c.args.found.now.items c.loop-group.found.items c.add_of_group.new.found.items c.loop-group.invariant c.in_ok-add_of_group.ensures

pub returns : goal.returns
returns c =
    let u = use_of c.args.used in
    let all : length u.rule.groups ≤ c.loop-group.group = omega (arith, c.loop-group-test.false, ap length c.as_slice-groups.ensures) in
    lines_some (IsGroupLine u c.args.verb) (length u.rule.groups) c.loop-group.group c.args.found.now.items c.loop-group.found.items all (group_within u c.args.verb) c.loop-group.invariant
