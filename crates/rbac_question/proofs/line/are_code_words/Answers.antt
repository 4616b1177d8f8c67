use Rattle.std.proofs.Common.{lit<, rules, tests}
use Rattle.std.proofs.lemmas.Iterator.{cases_from_all}
use Rattle.std.proofs.lemmas.Iterator.Splits.{YieldsList-from_str_split}
use Rattle.rbac_question.specs.Lines.{comma, parts_between, IsCodeWord}
use Rattle.rbac_question.proofs.Texts.{all_or_one}
use Rattle.rbac_question.proofs.line.are_code_words.Goals as goal

pub returns : goal.returns
returns c =
    all_or_one IsCodeWord (parts_between comma c.args.text.now) c.all.result
    (cases_from_all _ _ _ IsCodeWord (λ x. ¬ IsCodeWord x) c.all.ensures.ran
    (YieldsList-from_str_split comma c.args.text.now (lit< tt) c.split.ensures.text c.split.ensures.has_more c.split.ensures.pattern)
    (λ x q k. search (rules, tests)) (λ x q k. search (rules, tests)))
