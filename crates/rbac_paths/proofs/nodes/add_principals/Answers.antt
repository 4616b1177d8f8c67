use Rattle.std.proofs.Common.{◌≡◌, Bor, refl}
use Rattle.rbac_terms.specs.Principals.{Who}
use Rattle.rbac_paths.specs.Nodes.{NodeView, Somebody}
use Rattle.rbac_paths.proofs.NodesAdded.{adds_all, adds_more, adds_none}
use Rattle.rbac_paths.proofs.nodes.add_principals.Goals as goal

abbrev IsThis : Bor Who → NodeView → Type 0
IsThis who y = y ≡ Somebody who.now

pub loop-who-init : goal.loop-who-init
loop-who-init c = adds_none IsThis c.args.nodes.now

pub loop-who-preserved : goal.loop-who-preserved
loop-who-preserved c =
    adds_more IsThis c.args.principals.now c.loop-who.who-index c.who-item.result c.args.nodes.now c.loop-who.nodes c.add_node.new.nodes
    c.loop-who-test.true c.who-item.is c.loop-who.invariant c.in_ok-add_node.ensures

pub returns : goal.returns
returns c =
    adds_all IsThis c.args.principals.now c.args.principals.now c.loop-who.who-index c.args.nodes.now c.loop-who.nodes
    c.loop-who-test.false refl c.loop-who.invariant
