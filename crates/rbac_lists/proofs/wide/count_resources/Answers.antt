use Rattle.std.proofs.Common.{rules, tests, ◌∙◌, ap, filter}
use Rattle.std.proofs.lemmas.List.Elements.{filter_from_retain}
use Rattle.rbac_lists.specs.Derived.{is_plain_resource}
use Rattle.rbac_lists.proofs.wide.count_resources.Goals as goal

pub returns : goal.returns
returns c =
    let kept = filter_from_retain _ is_plain_resource (λ p x b q h. search (rules, tests)) _ _ _ c.retain.ensures.filtered in
    let all = rw c.new-resources.ensures.items at c.in_ok-put_words.ensures in
    rw (kept ∙ ap (filter is_plain_resource) all) at c.count.ensures
