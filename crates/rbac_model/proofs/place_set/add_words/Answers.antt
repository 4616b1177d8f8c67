use Rattle.std.proofs.Common.{arith}
use Rattle.rbac_model.proofs.PlaceSets.{both_places}
use Rattle.rbac_model.proofs.place_set.add_words.Goals as goal

pub returns-clause-ones : goal.returns-clause-ones
returns-clause-ones c =
    both_places c.args.words.now c.loop-at.words c.args.more.now c.loop-at.at c.loop-at.invariant.joined c.loop-at.invariant.kept (omega arith)
