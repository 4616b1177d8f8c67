use Rattle.std.proofs.Common.{◌∙◌, ◌++◌, List, ap, lit<, map, sym}
use Rattle.std.specs.Prelude.{filter}
use Rattle.std.specs.Str.Iter.{split_text, split_has_more, split_pattern}
use Rattle.std.proofs.lemmas.Iterator.Consumers.{YieldsList-end}
use Rattle.std.proofs.lemmas.Iterator.Splits.{YieldsList-from_str_split}
use Rattle.std.proofs.lemmas.List.{append-nil}
use Rattle.rbac_terms.specs.Text.{Text}
use Rattle.rbac_question.specs.Lines.{comma, is_not_empty}
use Rattle.rbac_question.proofs.who.groups_from.Goals.{in-Some-whole+in_ok-push_groups, in_default}
use Rattle.rbac_question.proofs.who.groups_from.Goals as goal

pub returns : goal.returns
returns c =
    let split = c.split-part-items.ensures in
    let same = c.into_iter-part-iterator.ensures.into_iter_gives in
    let parts = YieldsList-from_str_split comma c.args.text.now (lit< tt)
    (ap split_text same ∙ split.text) (ap split_has_more same ∙ split.has_more) (ap split_pattern same ∙ split.pattern) in
    let end = YieldsList-end parts c.loop-part.yielded _ c.loop-part.yielded_by _ _ c.in-None.is c.next.ensures.steps in
    let first = c.loop-part.invariant ∙ ap (filter is_not_empty) end.0 in
    elim c.match-whole.branch [
      | in-Some-whole+in_ok-push_groups w ↦
          rw (w.in-Some-whole.is, c.from_vec.ensures, w.groups-is)
          (w.in_ok-push_groups.ensures ∙ ap (λ (groups : List Text). groups ++ filter is_not_empty (map (λ n. n.now) w.in-Some-whole.names.now)) first)
      | in_default w ↦ rw (w.in_default.is, c.from_vec.ensures, w.groups-is) (first ∙ sym (append-nil _))
    ]
