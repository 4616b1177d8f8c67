use Rattle.std.proofs.Common.{arith}
use Rattle.std.proofs.lemmas.Grind.{common_steps}
use Rattle.rbac_text.proofs.WordLists.{joined}
use Rattle.rbac_text.proofs.rule.put_words.Goals as goal

pub returns-in_ok-put_item-in-Some : goal.returns-in_ok-put_item-in-Some
returns-in_ok-put_item-in-Some c = rw (c.in-Some.ensures.cases.0, joined c.in-Some.first.now c.in-Some.others.now) (grind (arith, common_steps))
