use Rattle.std.proofs.Common.{◌∙◌, sym}
use Rattle.rbac_diff.proofs.Stars.{ends_in_two, ends_otherwise}
use Rattle.rbac_diff.proofs.permission.with_one_star.Goals as goal

pub loop-rest-preserved : goal.loop-rest-preserved
loop-rest-preserved c = ends_in_two c.loop-rest.rest.now c.ends_with.result c.ends_with.ensures.value c.loop-rest-test.true ∙ c.loop-rest.invariant

pub returns : goal.returns
returns c = sym (ends_otherwise c.loop-rest.rest.now c.ends_with.result c.ends_with.ensures.value c.loop-rest-test.false) ∙ c.loop-rest.invariant
