use Rattle.std.proofs.Common.{◌∙◌, ap, refl, [], ◌≡◌}
use Rattle.std.specs.Prelude.{codes}
use Rattle.rbac_index.specs.RuleLists.{listed}
use Rattle.rbac_index.proofs.RuleListLemmas.{matching_from, subresource_only, subresource_none}
use Rattle.rbac_index.proofs.rule_lists.matching.Goals as goal

pub returns-in-Some : goal.returns-in-Some
returns-in-Some c =
    let first : c.under-every.result.now ≡ listed c.args.lists.now (codes "*") = c.under-every.ensures ∙ ap (listed c.args.lists.now) (c.in_ok-star.ensures ∙ c.as_slice.ensures) in
    matching_from c.args.lists.now c.args.text.now c.under-every.result.now c.under-same.result.now c.under.result.now c.united.result c.united.ensures first c.under-same.ensures
    (subresource_only c.args.lists.now c.args.text.now c.in-Some.word c.under.result.now (rw c.in-Some.is at c.in_ok-word.ensures) c.under.ensures)

pub returns : goal.returns
returns c =
    let first : c.under-every.result.now ≡ listed c.args.lists.now (codes "*") = c.under-every.ensures ∙ ap (listed c.args.lists.now) (c.in_ok-star.ensures ∙ c.as_slice.ensures) in
    matching_from c.args.lists.now c.args.text.now c.under-every.result.now c.under-same.result.now [] c.united-in-None.result c.united-in-None.ensures first c.under-same.ensures
    (subresource_none c.args.lists.now c.args.text.now [] (rw c.in-None.is at c.in_ok-word.ensures) refl)
