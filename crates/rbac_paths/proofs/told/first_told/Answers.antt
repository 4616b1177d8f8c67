use Rattle.std.proofs.Common.{arith, refl, rules}
use Rattle.std.proofs.lemmas.Option.{slice_get_read, slice_get_within}
use Rattle.rbac_paths.specs.Nodes.{node_of}
use Rattle.rbac_paths.proofs.Untold.{first_told, none_more, takes_none}
use Rattle.rbac_paths.proofs.told.first_told.Goals as goal

pub loop-rows-preserved : goal.loop-rows-preserved
loop-rows-preserved c =
    let steps = c.args.steps.now in
    let i = c.loop-rows.rows-index in
    none_more steps c.args.holdings.now (node_of c.args.to) i c.rows-item.result
    (slice_get_read steps _ i c.rows-item.result refl c.loop-rows-test.true c.rows-item.is)
    (λ told. (let both = c.if-is_told.ensures.1 told in cc)) c.loop-rows.invariant

pub returns-then-is_told : goal.returns-then-is_told
returns-then-is_told c p decide =
    let steps = c.args.steps.now in
    let i = c.loop-rows.rows-index in
    first_told steps c.args.holdings.now (node_of c.args.to) p (node_of c.args.from) decide (c.goes_on.ensures.0 (search rules)) i c.rows-item.result
    (slice_get_read steps _ i c.rows-item.result refl c.loop-rows-test.true c.rows-item.is) (c.if-is_told.ensures.0 refl) c.loop-rows.invariant

pub returns : goal.returns
returns c p decide =
    takes_none c.args.steps.now c.args.holdings.now (node_of c.args.to) p (node_of c.args.from) decide c.loop-rows.rows-index
    (λ k s there. (let low = slice_get_within c.args.steps.now k s there in let end = c.loop-rows-test.false in omega (arith, low, end))) c.loop-rows.invariant
