use Rattle.std.proofs.Common.{arith, subst}
use Rattle.rbac_paths.specs.Having.{HoldingView}
use Rattle.rbac_paths.specs.Joints.{IsAskedBy}
use Rattle.rbac_paths.specs.SharedWords.{AddsWhere}
use Rattle.rbac_paths.proofs.WordsAdded.{adds_each, adds_more}
use Rattle.rbac_paths.proofs.other_nodes.add_of_holdings.Goals as goal

pub loop-held-preserved : goal.loop-held-preserved
loop-held-preserved c =
    adds_more (λ h j. IsAskedBy c.args.others.now.by_word h j) c.args.holdings.now c.loop-held.held-index c.held-item.result c.args.places.now.items c.loop-held.places.items c.add_of_holding.new.places.items
    c.loop-held-test.true c.held-item.is c.loop-held.invariant c.in_ok-add_of_holding.ensures

pub returns : goal.returns
returns c =
    adds_each (λ h j. IsAskedBy c.args.others.now.by_word h j) c.args.holdings.now c.loop-held.held-index c.args.places.now.items c.loop-held.places.items
    (let end = c.loop-held-test.false in omega (arith, end)) c.loop-held.invariant
