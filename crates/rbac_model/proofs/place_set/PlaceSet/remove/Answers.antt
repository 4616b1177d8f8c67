use Rattle.std.proofs.Common.{◌≡◌, ◌∙◌, ◌<◌, ℕ, length, get_or, arith, bit_and, w64}
use Rattle.std.proofs.lemmas.List.{get_or_default, length-set}
use Rattle.std.specs.Int.{bit_not}
use Rattle.rbac_model.specs.Graphs.{HasPlace}
use Rattle.rbac_model.proofs.Masked.{word_done, words_after, removed_word, all_removed}
use Rattle.rbac_model.proofs.place_set.PlaceSet.remove.Goals as goal

pub loop-at-preserved : goal.loop-at-preserved
loop-at-preserved c =
    let words = c.loop-at.self-inside.words.items in
    let initial = c.self.inside.words.items in
    let at = c.loop-at.at in
    let value = (bit_and c.index_mut.result.now (bit_not w64 c.word.result)) in
    let Q : ℕ → Type 0 = λ k. HasPlace initial k × (HasPlace c.args.other.now k → ⊥) in
    let l : at < length words = omega (arith, c.loop-at-test.true, c.loop-at.invariant.len) in
    let read : c.index_mut.result.now ≡ get_or initial at 0 = c.index_mut.ensures.value ∙ get_or_default words at c.index_mut.result.now 0 l ∙ c.loop-at.invariant.kept at (omega arith) in
    record {
      len = length-set words at value ∙ c.loop-at.invariant.len;
      done = word_done Q words at value l (removed_word initial c.args.other.now at c.index_mut.result.now c.word.result (omega (arith, c.word.type_inv)) read c.word.ensures) c.loop-at.invariant.done;
      kept = words_after words initial at value c.loop-at.invariant.kept;
    }

pub returns : goal.returns
returns c =
    rw c.self.view_is at (all_removed c.self.inside.words.items c.args.other.now c.loop-at.self-inside.words.items c.loop-at.at c.loop-at.invariant.len (omega (arith, c.loop-at-test.false, c.loop-at.invariant.len)) c.loop-at.invariant.done)
