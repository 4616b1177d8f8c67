use Rattle.std.proofs.Common.{arith}
use Rattle.std.proofs.lemmas.Bool.{both_ways}
use Rattle.std.proofs.lemmas.Option.{slice_get-get_or}
use Rattle.std.specs.Prelude.{slice_index_or}
use Rattle.rbac_lint.proofs.Looked.{first_more, soonest_here, soonest_limit, soonest_none}
use Rattle.rbac_lint.proofs.redundant_rule.first_listed.Goals as goal

pub returns-then-limit-other : goal.returns-then-limit-other
returns-then-limit-other c =
    let listed = c.args.listed.now in
    let k = c.loop-other.other-index in
    let n = slice_index_or listed k 0 in
    soonest_limit c.args.rules.now c.args.place listed k n c.args.limit c.requires.ascending (slice_get-get_or listed k 0 c.loop-other-test.true) (omega arith) c.loop-other.invariant

pub returns-then-is_redundant_by : goal.returns-then-is_redundant_by
returns-then-is_redundant_by c =
    let listed = c.args.listed.now in
    let k = c.loop-other.other-index in
    let n = slice_index_or listed k 0 in
    soonest_here c.args.rules.now c.args.place listed k n c.args.limit c.requires.ascending (slice_get-get_or listed k 0 c.loop-other-test.true) (omega arith)
    (c.is_redundant_by.ensures.0 c.if-is_redundant_by.true) c.loop-other.invariant

pub loop-other-preserved : goal.loop-other-preserved
loop-other-preserved c =
    let listed = c.args.listed.now in
    let k = c.loop-other.other-index in
    first_more c.args.rules.now c.args.place listed k (slice_index_or listed k 0) (slice_get-get_or listed k 0 c.loop-other-test.true)
    (λ m. both_ways _ c.if-is_redundant_by.false (c.is_redundant_by.ensures.1 m)) c.loop-other.invariant

pub returns : goal.returns
returns c = soonest_none c.args.rules.now c.args.place c.args.listed.now c.loop-other.other-index c.args.limit (omega arith) c.loop-other.invariant
