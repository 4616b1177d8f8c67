use Rattle.std.proofs.Common.{◌≤◌, [], ◌∷◌, ap, arith, length}
use Rattle.rbac_use.specs.Rules.{IsUrlLine, use_of}
use Rattle.rbac_use.proofs.Exact.{lines_some, lines_start}
use Rattle.rbac_use.proofs.Places.{more_at}
use Rattle.rbac_use.proofs.RuleLines.{url_stands, url_within}
use Rattle.rbac_use.proofs.rules.add_urls.Goals as goal

pub loop-url-init : goal.loop-url-init
loop-url-init c = lines_start (IsUrlLine (use_of c.args.used) c.args.verb) c.args.found.now.items

pub loop-url-preserved : goal.loop-url-preserved
loop-url-preserved c =
    let u = use_of c.args.used in
    more_at (u.place ∷ 1 ∷ u.number ∷ c.args.verb ∷ 0 ∷ []) (IsUrlLine u c.args.verb) (url_stands u c.args.verb) c.loop-url.url c.args.found.now.items c.loop-url.found.items c.add.new.found.items c.loop-url.invariant c.in_ok-add.ensures

pub returns : goal.returns
returns c =
    let u = use_of c.args.used in
    let all : length u.rule.urls ≤ c.loop-url.url = omega (arith, c.loop-url-test.false, ap length c.as_slice-urls.ensures) in
    lines_some (IsUrlLine u c.args.verb) (length u.rule.urls) c.loop-url.url c.args.found.now.items c.loop-url.found.items all (url_within u c.args.verb) c.loop-url.invariant
