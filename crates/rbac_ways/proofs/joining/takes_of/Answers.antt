use Rattle.std.proofs.Common.{◌≡◌, ◌↔◌, ◌<◌, ◌∙◌, [], List, ℕ, Contains, arith, get_or, length, subst}
use Rattle.std.proofs.lemmas.List.{get_or_read}
use Rattle.rbac_ways.specs.Joining.{AreLists, TakesList}
use Rattle.rbac_ways.proofs.Numbering.{lists_more, takes_lists}
use Rattle.rbac_ways.proofs.joining.takes_of.Goals as goal

pub loop-node-preserved : goal.loop-node-preserved
loop-node-preserved c =
    let takes = c.args.takes.now in
    let own = c.args.own.now in
    let count = length c.args.lists.now in
    let more = length c.args.also.now in
    let node = c.loop-node.node in
    let below = c.in_ok-taken.taken.items in
    let taken = c.add_own.new.taken.items in
    let places : c.as_slice.result.now ≡ get_or takes node [] = c.as_slice.ensures ∙ get_or_read takes node c.index-takes-node.result c.loop-node-test.true c.index-takes-node.is [] in
    let are = subst (λ (numbers : List ℕ). (n : ℕ) → Contains below n ↔ (Contains numbers n × (n < count))) places c.in_ok-taken.ensures in
    rw (c.in_ok-push.ensures.items, c.from_vec.ensures) (lists_more (TakesList count more takes own) node c.loop-node.all.items taken
    (takes_lists count more takes own node below taken are c.in_ok-add_own.ensures) c.loop-node.invariant)

pub returns : goal.returns
returns c =
    let all : c.loop-node.node ≡ length c.args.takes.now = let test = c.loop-node-test.false in let low = c.loop-node.auto.node-end in omega (arith, test, low) in
    subst (λ (n : ℕ). AreLists (TakesList (length c.args.lists.now) (length c.args.also.now) c.args.takes.now c.args.own.now) n c.loop-node.all.items) all c.loop-node.invariant
