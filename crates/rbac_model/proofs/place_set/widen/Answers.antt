use Rattle.std.proofs.Common.{◌∙◌, rules}
use Rattle.rbac_model.proofs.PlaceSets.{widened}
use Rattle.rbac_model.proofs.place_set.widen.Goals as goal

pub loop-at-preserved : goal.loop-at-preserved
loop-at-preserved c = record {
  room = search rules;
  same = λ k. rw c.in_ok-push.ensures.items (widened c.loop-at.words.items k ∙ c.loop-at.invariant.same k);
}
