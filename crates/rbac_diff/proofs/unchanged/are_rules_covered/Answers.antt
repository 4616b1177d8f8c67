use Rattle.std.proofs.Common.{rules}
use Rattle.rbac_diff.proofs.CoveredGrants.{covered_none, covered_more, have_covered}
use Rattle.rbac_diff.proofs.unchanged.are_rules_covered.Goals as goal

pub loop-no-init : goal.loop-no-init
loop-no-init c = covered_none c.args.own.now c.args.other.now c.grants_of-from.result.0 c.grants_of-other_from.result.0

pub loop-no-preserved : goal.loop-no-preserved
loop-no-preserved c = covered_more c.args.own.now c.args.other.now c.grants_of-from.result.0 c.grants_of-other_from.result.0 c.loop-no.no c.loop-no.invariant (search rules)

pub returns : goal.returns
returns c = λ t.
    have_covered c.args.own.now c.args.other.now c.args.place c.args.at c.grants_of-from.result.0 c.grants_of-from.result.1 c.grants_of-other_from.result.0 c.grants_of-other_from.result.1 c.loop-no.no
    c.grants_of-from.ensures.between c.grants_of-other_from.ensures.between (search rules) (search rules) c.loop-no.invariant
