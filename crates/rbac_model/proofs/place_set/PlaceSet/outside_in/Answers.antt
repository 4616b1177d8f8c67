use Rattle.rbac_model.proofs.PlaceSets.{covered_word}
use Rattle.rbac_model.proofs.place_set.PlaceSet.outside_in.Goals as goal

pub returns-then-word-others : goal.returns-then-word-others
returns-then-word-others c = λ k here below.
    covered_word c.args.self.now c.args.other.now c.args.at (rw (← c.word.ensures, ← c.word-others.ensures) c.if-word-others.true) k here
