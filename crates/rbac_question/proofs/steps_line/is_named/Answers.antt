use Rattle.std.proofs.Common.{lit<, rules, tests}
use Rattle.std.specs.Str.{bytes_eq}
use Rattle.std.proofs.lemmas.Iterator.Search.{any_from_yields_List}
use Rattle.std.proofs.lemmas.Iterator.Splits.{YieldsList-from_str_split}
use Rattle.rbac_steps.specs.Steps.{step_word}
use Rattle.rbac_question.specs.Lines.{comma}
use Rattle.rbac_question.proofs.steps_line.is_named.Goals as goal

pub returns : goal.returns
returns c =
    any_from_yields_List (bytes_eq (step_word c.args.step)) _ _ _ c.any.ensures.ran
    (YieldsList-from_str_split comma c.args.text.now (lit< tt) c.split.ensures.text c.split.ensures.has_more c.split.ensures.pattern)
    (λ x b q k. search (rules, tests))
