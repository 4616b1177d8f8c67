use Rattle.std.proofs.Common.{rules, refl, ◌≡◌}
use Rattle.std.proofs.lemmas.Fn.{answers_by}
use Rattle.std.proofs.lemmas.Cmp.{nat_list_cmp_total}
use Rattle.std.proofs.lemmas.Option.{same_Some}
use Rattle.rbac_terms.specs.Text.{text_cmp}
use Rattle.rbac_terms.specs.Principals.{who_key}
use Rattle.rbac_matrix.proofs.SearchLemmas.{by_text, place_from}
use Rattle.rbac_matrix.proofs.start.principal_place.Goals as goal

pub returns : goal.returns
returns c =
    let t : c.args.key.now.principal ≡ c.field-wanted.result.now = same_Some c.args.key.now.principal c.field-wanted.result.now c.field-wanted.ensures in
    let at = rw (c.principals-principals.ensures.principals, ← t) at (c.binary_search_by.ensures.position (λ y. text_cmp (who_key y) c.field-wanted.result.now) (answers_by _ _ (λ f. f.0 ≡ c.field-wanted.result) (λ f a r h called same. (search rules, search rules)) _ refl)) in
    let place = place_from text_cmp nat_list_cmp_total who_key c.args.universe.now.principals (by_text who_key c.args.universe.now.principals c.principals-principals.ensures.ordered.principals) c.args.key.now.principal c.binary_search_by.result (rw c.principals-principals.ensures.principals at c.binary_search_by.ensures.bound) at in
    record { found = place.0; gap = place.1; universe = c.principals-principals.ensures.ordered }
