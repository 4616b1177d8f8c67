use Rattle.std.proofs.Common.{rules, tests, ◌∙◌, ap, filter}
use Rattle.std.proofs.lemmas.List.Elements.{filter_from_retain}
use Rattle.rbac_lists.specs.Derived.{is_path_word}
use Rattle.rbac_lists.proofs.derived_lists.urls_of.Goals as goal

pub returns : goal.returns
returns c =
    let kept = filter_from_retain _ is_path_word (λ p x b q h. search (rules, tests)) _ _ _ c.retain.ensures.filtered in
    c.from_vec.ensures ∙ kept ∙ ap (filter is_path_word) (rw c.new-urls.ensures.items at c.in_ok-put_named.ensures)
