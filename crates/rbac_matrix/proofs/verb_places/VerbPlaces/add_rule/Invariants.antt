use Rattle.rbac_matrix.proofs.VerbLemmas.{AddsFirst}
use Rattle.rbac_matrix.proofs.verb_places.VerbPlaces.add_rule.Given as goal

abbrev pub invariant-loop-word : goal.invariant-loop-word
invariant-loop-word l = AddsFirst l.word-index l.word-items l.verbs l.fn.self.words.items l.self.words.items
