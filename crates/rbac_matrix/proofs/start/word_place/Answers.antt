use Rattle.std.proofs.Common.{rules, refl, ◌≡◌}
use Rattle.std.proofs.lemmas.Fn.{answers_by}
use Rattle.std.proofs.lemmas.Cmp.{nat_list_cmp_total}
use Rattle.rbac_terms.specs.Text.{Text, text_cmp}
use Rattle.rbac_matrix.proofs.SearchLemmas.{by_text, place_from}
use Rattle.rbac_matrix.proofs.start.word_place.Goals as goal

pub returns : goal.returns
returns c =
    let at = c.binary_search_by.ensures.position (λ y. text_cmp y c.args.word.now) (answers_by _ _ (λ f. f.0 ≡ c.args.word) (λ f a r h called same. (search rules, search rules)) _ refl) in
    let place = place_from text_cmp nat_list_cmp_total (λ (w : Text). w) c.args.words.now (by_text (λ (w : Text). w) c.args.words.now c.requires) c.args.word.now c.binary_search_by.result c.binary_search_by.ensures.bound at in
    record { found = place.0; gap = place.1 }
