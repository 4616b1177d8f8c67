use Rattle.std.proofs.Common.{rules, refl, ◌≡◌}
use Rattle.std.proofs.lemmas.Fn.{answers_by}
use Rattle.std.proofs.lemmas.Cmp.{nat_list_cmp_total, lists_total}
use Rattle.std.specs.Cmp.Lexicographic.{slice_cmp}
use Rattle.rbac_terms.specs.Text.{text_cmp}
use Rattle.rbac_reaches.specs.Matched.{what_texts}
use Rattle.rbac_matrix.specs.Starting.{target_part, whats}
use Rattle.rbac_matrix.proofs.SearchLemmas.{place_from, whats_up}
use Rattle.rbac_matrix.proofs.start.target_place.Goals as goal

pub returns : goal.returns
returns c =
    let is = c.targets-targets.ensures.ordered in
    let at = rw c.targets-targets.ensures.targets at (c.binary_search_by.ensures.position (λ t. slice_cmp text_cmp (what_texts t) (target_part c.args.key.now)) (answers_by _ _ (λ f. f.0 ≡ c.args.key) (λ f a r h called same. (search rules, search rules)) _ refl)) in
    let place = place_from (slice_cmp text_cmp) (lists_total nat_list_cmp_total) what_texts (whats c.args.universe.now) (whats_up c.args.universe.now is c.args.key.now) (target_part c.args.key.now) c.binary_search_by.result (rw c.targets-targets.ensures.targets at c.binary_search_by.ensures.bound) at in
    record { found = place.0; gap = place.1; few = c.targets-targets.ensures.few.targets; universe = is }
