-- What the text after `--steps` means, in a line of any command.
use Rattle.std.specs.Prelude.{◌≡◌, Bool, List, Option, Some, None, All, Any, filter}
use Rattle.std.specs.List.{list_any}
use Rattle.std.specs.Str.{bytes_eq}
use Rattle.rbac_terms.specs.Text.{Text}
use Rattle.rbac_steps.specs.Steps.{steps, step_word}
use Rattle.rbac_steps.specs.declared.steps.Step.{Step}
use Rattle.rbac_question.specs.Lines.{parts_between, comma}

-- the text is exactly the word of a step of the table
unfoldable pub IsStepWord : Text → Type 0
IsStepWord word = Any (λ step. word ≡ step_word step) steps

-- each part between the commas of `--steps` is the word of a step; an empty text has one part,
-- which is empty (own)
abbrev pub AreStepWords : Option Text → Type 0
AreStepWords None = Unit {0}
AreStepWords (Some text) = All IsStepWord (parts_between comma text)

-- U8: a part between the commas of `--steps` isn't the word of a step (own)
abbrev pub HasBadStep : Option Text → Type 0
HasBadStep given = ¬ AreStepWords given

-- the text names the step: one of the parts between its commas is the step's word
abbrev pub names_step : Text → Step → Bool
names_step text step = list_any (bytes_eq (step_word step)) (parts_between comma text)

-- the steps that count: those that `--steps` names, each once, in the order of the table; without
-- `--steps`, all of the table (own)
abbrev pub steps_meant : Option Text → List Step
steps_meant None = steps
steps_meant (Some text) = filter (names_step text) steps
