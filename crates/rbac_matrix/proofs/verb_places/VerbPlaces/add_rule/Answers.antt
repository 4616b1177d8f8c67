use Rattle.std.proofs.Common.{◌≡◌, ◌∙◌, List, ap, arith, sym}
use Rattle.std.specs.Prelude.{Some, codes, slice_get}
use Rattle.std.proofs.lemmas.Bool.{both_ways}
use Rattle.std.proofs.lemmas.Option.{slice_get-get_or}
use Rattle.rbac_terms.specs.Text.{Text}
use Rattle.rbac_matrix.proofs.VerbLemmas.{adds_all, adds_found, adds_other}
use Rattle.rbac_matrix.proofs.verb_places.VerbPlaces.add_rule.Goals as goal
use Rattle.rbac_matrix.proofs.verb_places.VerbPlaces.add_rule.Goals.{in-Ok, in_default}

pub loop-word-preserved : goal.loop-word-preserved
loop-word-preserved c =
    let items : List Text = c.as_slice-word-items.result.now in
    let here : slice_get items c.loop-word.word-index ≡ Some c.word-item.result = slice_get-get_or items c.loop-word.word-index c.word-item.result c.loop-word-test.true ∙ ap (λ (t : Text). Some t) (sym c.word-item.is) in
    let plain : c.word-item.result ≡ codes "*" → ⊥ = λ star. both_ways _ c.if-is_star.false (c.is_star.ensures.1 star) in
    let n = c.loop-word.word-index in
    let old = c.args.self.now.words.items in
    let mid = c.loop-word.self.words.items in
    elim c.match-word_place.branch [
      | in-Ok w ↦ rw w.self-is (adds_found items c.args.verbs.now old c.requires n mid w.add.new.self.words.items c.loop-word.invariant c.word-item.result here plain w.in-Ok.place w.in-Ok.ensures.found w.add.ensures.set w.add.ensures.room)
      | in_default w ↦ rw w.self-is (adds_other items c.args.verbs.now old c.requires n mid mid c.loop-word.invariant c.word-item.result here plain w.in_default.field-0 w.in_default.ensures.gap)
    ]

pub returns : goal.returns
returns c = adds_all c.as_slice-word-items.result.now c.args.verbs.now c.args.self.now.words.items c.args.rule.now c.loop-word.word-index c.loop-word.self.words.items c.as_slice-word-items.ensures (omega (arith, c.loop-word-test.false)) c.loop-word.invariant
