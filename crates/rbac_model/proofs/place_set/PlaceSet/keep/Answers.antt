use Rattle.std.proofs.Common.{◌≡◌, ◌∙◌, ◌<◌, ℕ, List, length, get_or, arith, bit_and, take, ap}
use Rattle.std.proofs.lemmas.List.{get_or_default, length-set}
use Rattle.rbac_model.specs.Graphs.{HasPlace}
use Rattle.rbac_model.proofs.Masked.{word_done, words_after, kept_word, all_kept}
use Rattle.rbac_model.proofs.place_set.PlaceSet.keep.Goals as goal

pub loop-at-preserved : goal.loop-at-preserved
loop-at-preserved c =
    let words = c.loop-at.self-inside.words.items in
    let initial = c.truncate.new.self.items in
    let at = c.loop-at.at in
    let value = (bit_and c.index_mut.result.now c.word.result) in
    let Q : ℕ → Type 0 = λ k. HasPlace initial k × HasPlace c.args.other.now k in
    let l : at < length words = omega (arith, c.loop-at-test.true, c.loop-at.invariant.len) in
    let read : c.index_mut.result.now ≡ get_or initial at 0 = c.index_mut.ensures.value ∙ get_or_default words at c.index_mut.result.now 0 l ∙ c.loop-at.invariant.kept at (omega arith) in
    record {
      len = length-set words at value ∙ c.loop-at.invariant.len;
      done = word_done Q words at value l (kept_word initial c.args.other.now at c.index_mut.result.now c.word.result read c.word.ensures) c.loop-at.invariant.done;
      kept = words_after words initial at value c.loop-at.invariant.kept;
    }

pub returns : goal.returns
returns c =
    let room : c.len.result ≡ length c.args.other.now = omega (arith, c.len.ensures, ap length c.other.view_is, c.other.inside.words.ok.0) in
    let is : c.truncate.new.self.items ≡ take (length c.args.other.now) c.args.self.now =
    c.truncate.ensures.items ∙ ap (λ (n : ℕ). take n c.self.inside.words.items) room ∙ ap (λ (xs : List ℕ). take (length c.args.other.now) xs) c.self.view_is in
    all_kept c.args.self.now c.args.other.now c.truncate.new.self.items c.loop-at.self-inside.words.items c.loop-at.at is c.loop-at.invariant.len (omega (arith, c.loop-at-test.false, c.loop-at.invariant.len)) c.loop-at.invariant.done
