use Rattle.std.proofs.Common.{rules, refl, ◌≡◌}
use Rattle.std.proofs.lemmas.Fn.{answers_by}
use Rattle.rbac_terms.specs.Text.{text_cmp}
use Rattle.rbac_terms.proofs.Halving.{found_iff}
use Rattle.rbac_terms.proofs.sorted.is_among.Goals as goal

pub returns : goal.returns
returns c =
    let facts = c.binary_search_by-found.ensures in
    rw c.is_ok.ensures.value (found_iff c.args.sorted.now c.args.text.now c.binary_search_by-found.result c.requires facts.bound
    (facts.position (λ y. text_cmp y c.args.text.now)
    (answers_by _ _ (λ f. f.0.now ≡ c.args.text) (λ f a r h called same. (search rules, search rules)) _ refl)))
