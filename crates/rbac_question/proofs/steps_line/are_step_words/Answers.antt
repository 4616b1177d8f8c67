use Rattle.std.proofs.Common.{lit<, rules, tests}
use Rattle.std.proofs.lemmas.Iterator.{cases_from_all}
use Rattle.std.proofs.lemmas.Iterator.Splits.{YieldsList-from_str_split}
use Rattle.rbac_question.specs.Lines.{comma, parts_between}
use Rattle.rbac_question.specs.StepsLines.{IsStepWord}
use Rattle.rbac_question.proofs.Texts.{all_or_one}
use Rattle.rbac_question.proofs.steps_line.are_step_words.Goals as goal

pub returns : goal.returns
returns c =
    all_or_one IsStepWord (parts_between comma c.args.text.now) c.all.result
    (cases_from_all _ _ _ IsStepWord (λ x. ¬ IsStepWord x) c.all.ensures.ran
    (YieldsList-from_str_split comma c.args.text.now (lit< tt) c.split.ensures.text c.split.ensures.has_more c.split.ensures.pattern)
    (λ x q k. search (rules, tests)) (λ x q k. search (rules, tests)))
