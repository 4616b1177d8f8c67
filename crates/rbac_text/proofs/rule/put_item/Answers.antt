use Rattle.std.proofs.Common.{rules}
use Rattle.std.proofs.lemmas.Bool.{both_ways}
use Rattle.rbac_text.proofs.WordLists.{plain_item, item_with_comma}
use Rattle.rbac_text.proofs.rule.put_item.Goals as goal

pub returns-then-has_comma : goal.returns-then-has_comma
returns-then-has_comma c = rw (item_with_comma c.args.word.now (rw c.as_bytes-text.ensures at (c.has_comma.ensures.0 c.if-has_comma.true))) (search rules)

pub returns-else-has_comma : goal.returns-else-has_comma
returns-else-has_comma c =
    rw (plain_item c.args.word.now (λ h. both_ways _ c.if-has_comma.false (c.has_comma.ensures.1 (rw c.as_bytes-text.ensures h)))) (search rules)
