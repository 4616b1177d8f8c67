-- What a `who-can` line means.
use Rattle.std.specs.Prelude.{◌≡◌, Bool, Option, None, false, true, vec_items}
use Rattle.rbac_terms.specs.Text.{Text}
use Rattle.rbac_question.specs.Lines.{QuestionParts, IsQuestion, LacksWord, AcceptsQuestion}
use Rattle.rbac_question.specs.Lines.{RefusesQuestion}
use Rattle.rbac_question.specs.StepsLines.{AreStepWords, HasBadStep, steps_meant}
use Rattle.rbac_question.specs.declared.command.Action.{Action}
use Rattle.rbac_question.specs.declared.command.Action.TheVariants.{WhoCan, WaysTo}
use Rattle.rbac_question.specs.declared.command.HolderOptions.{HolderOptions}
use Rattle.rbac_question.specs.declared.fault.QuestionFault.{QuestionFault}
use Rattle.rbac_question.specs.declared.fault.QuestionFault.TheVariants.{EmptyWord, UrlSubresource}
use Rattle.rbac_question.specs.declared.fault.QuestionFault.TheVariants.{BadToken, BadPrincipal}
use Rattle.rbac_question.specs.declared.fault.QuestionFault.TheVariants.{BadCode, BadChange}
use Rattle.rbac_question.specs.declared.fault.QuestionFault.TheVariants.{BadStep, BadIndirect}
use Rattle.rbac_question.specs.declared.fault.QuestionFault.TheVariants.{BadEnd, BadLogs}
use Rattle.rbac_question.specs.declared.fault.QuestionFault.TheVariants.{BadRoleName, NoMemory}

-- the parts of a `who-can` line: `--indirect`, the text after `--steps`, the options about holders,
-- and the parts that ask the question
pub record WhoCanParts : Type 0 where
  pub indirect : Bool
  pub steps : Option Text
  pub options : HolderOptions
  pub question : QuestionParts

-- the options that count: `-A` overrides `--anywhere` too (own)
abbrev pub options_meant : Bool → HolderOptions → HolderOptions
options_meant true given = record given { anywhere = false }
options_meant false given = given

-- what a `who-can` line means: with these options it asks who is allowed what the question asks;
-- with `--indirect` it asks who comes by these steps to a node that is allowed it
abbrev pub MeansWhoCan : WhoCanParts → Action → Type 0
MeansWhoCan l (WhoCan options question) = (l.indirect ≡ false)
    × (options ≡ options_meant l.question.all_namespaces l.options) × IsQuestion l.question question
MeansWhoCan l (WaysTo chosen question) = (l.indirect ≡ true)
    × (vec_items chosen ≡ steps_meant l.steps) × IsQuestion l.question question
MeansWhoCan l action = ⊥

-- none of `--why`, `--every`, `--anywhere`, `--any-name` and `--members`
abbrev pub no_options : HolderOptions
no_options = record {
  why = false;
  every = false;
  anywhere = false;
  any_name = false;
  members = false;
}

-- the options go together: `--indirect` excludes the options about holders, and `--steps` needs
-- `--indirect` (own)
abbrev pub GoTogether : WhoCanParts → Type 0
GoTogether l = (l.indirect ≡ true → l.options ≡ no_options)
    × (l.indirect ≡ false → l.steps ≡ None)

-- a `who-can` line without U2, U3, U8 and U9
abbrev pub AcceptsWhoCan : WhoCanParts → Type 0
AcceptsWhoCan l = AcceptsQuestion l.question × AreStepWords l.steps × GoTogether l

-- the refusal of a `who-can` line: U2 or U3 for its question, otherwise U8 for its steps, otherwise
-- U9 for options that don't go together (own); out of memory may come at any time
abbrev pub RefusesWhoCan : WhoCanParts → QuestionFault → Type 0
RefusesWhoCan l EmptyWord = LacksWord l.question
RefusesWhoCan l UrlSubresource = RefusesQuestion l.question UrlSubresource
RefusesWhoCan l BadToken = ⊥
RefusesWhoCan l BadPrincipal = ⊥
RefusesWhoCan l BadCode = ⊥
RefusesWhoCan l BadChange = ⊥
RefusesWhoCan l BadStep = AcceptsQuestion l.question × HasBadStep l.steps
RefusesWhoCan l BadIndirect = AcceptsQuestion l.question × AreStepWords l.steps × (¬ GoTogether l)
RefusesWhoCan l BadEnd = ⊥
RefusesWhoCan l BadLogs = ⊥
RefusesWhoCan l BadRoleName = ⊥
RefusesWhoCan l NoMemory = Unit {0}
