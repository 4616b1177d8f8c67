use Rattle.std.proofs.Common.{arith}
use Rattle.rbac_matrix.proofs.PlaceLemmas.{added}
use Rattle.rbac_matrix.proofs.verb_places.VerbPlaces.add.Goals as goal

pub returns-then-at-len-clause-set : goal.returns-then-at-len-clause-set
returns-then-at-len-clause-set c = λ other _. rw (c.put.ensures, c.as_slice.ensures.value) (added c.args.self.now.words.items c.args.place (omega (arith, c.if-at-len.true, c.len.ensures.value)) other)
