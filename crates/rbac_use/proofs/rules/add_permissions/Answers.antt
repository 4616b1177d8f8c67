use Rattle.std.proofs.Common.{◌≤◌, [], ◌∷◌, ap, arith, length}
use Rattle.rbac_use.specs.Rules.{IsVerbLine, use_of}
use Rattle.rbac_use.proofs.Exact.{lines_some, lines_start}
use Rattle.rbac_use.proofs.Places.{more_at}
use Rattle.rbac_use.proofs.RuleLines.{verb_lines, verb_stands, verb_within}
use Rattle.rbac_use.proofs.rules.add_permissions.Goals as goal

pub loop-verb-init : goal.loop-verb-init
loop-verb-init c = lines_start (IsVerbLine (use_of c.args.used)) c.args.found.now.items

pub loop-verb-preserved : goal.loop-verb-preserved
loop-verb-preserved c =
    let u = use_of c.args.used in
    let both = verb_lines u c.loop-verb.verb c.loop-verb.found.items c.add_urls.new.found.items c.add_resources.new.found.items c.in_ok-add_urls.ensures c.in_ok-add_resources.ensures in
    more_at (u.place ∷ 1 ∷ u.number ∷ []) (IsVerbLine u) (verb_stands u) c.loop-verb.verb c.args.found.now.items c.loop-verb.found.items c.add_resources.new.found.items c.loop-verb.invariant both

pub returns : goal.returns
returns c =
    let u = use_of c.args.used in
    let all : length u.rule.verbs ≤ c.loop-verb.verb = omega (arith, c.loop-verb-test.false, ap length c.as_slice-verbs.ensures) in
    lines_some (IsVerbLine u) (length u.rule.verbs) c.loop-verb.verb c.args.found.now.items c.loop-verb.found.items all (verb_within u) c.loop-verb.invariant
