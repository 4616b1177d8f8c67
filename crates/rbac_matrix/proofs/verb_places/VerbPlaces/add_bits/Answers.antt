use Rattle.std.proofs.Common.{arith}
use Rattle.rbac_matrix.proofs.PlaceLemmas.{bits_added}
use Rattle.rbac_matrix.proofs.verb_places.VerbPlaces.add_bits.Goals as goal

pub returns-then-not-is_empty-clause-set : goal.returns-then-not-is_empty-clause-set
returns-then-not-is_empty-clause-set c = λ place room. rw (c.put.ensures, c.as_slice.ensures.value) (bits_added c.args.self.now.words.items c.args.bits (omega (arith, room)) place)
