use Rattle.std.proofs.Common.{◌≤◌, [], ◌∷◌, ap, arith, length}
use Rattle.rbac_use.specs.Rules.{IsNameLine, use_of}
use Rattle.rbac_use.proofs.Exact.{lines_some, lines_start}
use Rattle.rbac_use.proofs.Places.{more_at}
use Rattle.rbac_use.proofs.RuleLines.{name_stands, name_in_rule}
use Rattle.rbac_use.proofs.rules.add_names.Goals as goal

pub loop-name-init : goal.loop-name-init
loop-name-init c = lines_start (IsNameLine (use_of c.args.used) c.args.verb c.args.group c.args.resource) c.args.found.now.items

pub loop-name-preserved : goal.loop-name-preserved
loop-name-preserved c =
    let u = use_of c.args.used in
    more_at (u.place ∷ 1 ∷ u.number ∷ c.args.verb ∷ 1 ∷ c.args.group ∷ c.args.resource ∷ []) (IsNameLine u c.args.verb c.args.group c.args.resource) (name_stands u c.args.verb c.args.group c.args.resource) c.loop-name.name c.args.found.now.items c.loop-name.found.items c.add.new.found.items c.loop-name.invariant c.in_ok-add.ensures

pub returns : goal.returns
returns c =
    let u = use_of c.args.used in
    let all : length u.rule.resource_names ≤ c.loop-name.name = omega (arith, c.loop-name-test.false, ap length c.as_slice-names.ensures) in
    lines_some (IsNameLine u c.args.verb c.args.group c.args.resource) (length u.rule.resource_names) c.loop-name.name c.args.found.now.items c.loop-name.found.items all (name_in_rule u c.args.verb c.args.group c.args.resource) c.loop-name.invariant
