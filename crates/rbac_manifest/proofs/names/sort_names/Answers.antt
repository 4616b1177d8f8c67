use Rattle.std.proofs.Common.{rules, List}
use Rattle.std.specs.Ordering.{is_lt}
use Rattle.std.proofs.lemmas.Fn.{answers_by}
use Rattle.rbac_terms.specs.Text.{Text}
use Rattle.rbac_model.proofs.LastNamed.{ranks}
use Rattle.rbac_manifest.specs.Names.{name_cmp}
use Rattle.rbac_manifest.proofs.names.sort_names.Goals as goal

pub returns-clause-sorted : goal.returns-clause-sorted
returns-clause-sorted c =
    c.in_ok-sort_by.ensures.sorted (λ x y. is_lt (name_cmp x y)) (ranks (λ (t : List Text). t))
    (answers_by _ _ (λ f. Unit {0}) (λ f a r h called met. (search rules, tt)) _ tt)
