use Rattle.std.proofs.Common.{◌↔◌, ◌<◌, [], ℕ, List, get_or, length, subst}
use Rattle.rbac_terms.specs.Text.{Text}
use Rattle.rbac_ways.specs.Joining.{IsListedAt, IsNumberOf}
use Rattle.rbac_ways.proofs.ByWord.{by_words}
use Rattle.rbac_ways.proofs.by_word.NodesByWord.of.Goals as goal

pub returns : goal.returns
returns c =
    let had_by = c.args.had_by.now in
    let sets = c.in_ok-sets.sets.items in
    by_words had_by c.in_ok-words.words.items sets c.in_ok-words.ensures
    (subst (λ (words : List Text). (number j : ℕ) → number < length words → IsListedAt sets number j ↔ IsNumberOf words (get_or had_by j []) number) c.as_slice.ensures.value c.in_ok-sets.ensures.each)
