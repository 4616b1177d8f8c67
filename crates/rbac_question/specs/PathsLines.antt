-- What a `paths` line means.
use Rattle.std.specs.Prelude.{◌≡◌, Option, vec_items}
use Rattle.rbac_terms.specs.Text.{Text}
use Rattle.rbac_question.specs.Lines.{WhoParts, NamesPrincipal, HasBadPrincipal}
use Rattle.rbac_question.specs.PathEnds.{HasBadEnd, IsEndGiven, IsGoodEnd}
use Rattle.rbac_question.specs.StepsLines.{AreStepWords, HasBadStep, steps_meant}
use Rattle.rbac_question.specs.declared.command.Action.{Action}
use Rattle.rbac_question.specs.declared.command.Action.TheVariants.{Paths}
use Rattle.rbac_question.specs.declared.fault.QuestionFault.{QuestionFault}
use Rattle.rbac_question.specs.declared.fault.QuestionFault.TheVariants.{EmptyWord, UrlSubresource}
use Rattle.rbac_question.specs.declared.fault.QuestionFault.TheVariants.{BadToken, BadPrincipal}
use Rattle.rbac_question.specs.declared.fault.QuestionFault.TheVariants.{BadCode, BadChange}
use Rattle.rbac_question.specs.declared.fault.QuestionFault.TheVariants.{BadStep, BadIndirect}
use Rattle.rbac_question.specs.declared.fault.QuestionFault.TheVariants.{BadEnd, BadLogs}
use Rattle.rbac_question.specs.declared.fault.QuestionFault.TheVariants.{BadRoleName, NoMemory}

-- the parts of a `paths` line: those that name a principal, the texts after `--steps` and `--to`,
-- and the text after `-n`, which is empty if it isn't given
pub record PathsParts : Type 0 where
  pub who : WhoParts
  pub steps : Option Text
  pub to : Option Text
  pub namespace : Text

-- what a `paths` line means: it asks whom the principal comes to by these steps; with `--to`, how
-- it comes to that end
abbrev pub MeansPaths : PathsParts → Action → Type 0
MeansPaths l (Paths principal chosen to) = NamesPrincipal l.who principal
    × (vec_items chosen ≡ steps_meant l.steps) × IsEndGiven l.to l.namespace to
MeansPaths l action = ⊥

-- a `paths` line without U5, U8 and U10
abbrev pub AcceptsPaths : PathsParts → Type 0
AcceptsPaths l = (¬ HasBadPrincipal l.who) × AreStepWords l.steps × IsGoodEnd l.to l.namespace

-- the refusal of a `paths` line: U5 before U8, and U8 before U10; out of memory may come at any
-- time
abbrev pub RefusesPaths : PathsParts → QuestionFault → Type 0
RefusesPaths l EmptyWord = ⊥
RefusesPaths l UrlSubresource = ⊥
RefusesPaths l BadToken = ⊥
RefusesPaths l BadPrincipal = HasBadPrincipal l.who
RefusesPaths l BadCode = ⊥
RefusesPaths l BadChange = ⊥
RefusesPaths l BadStep = (¬ HasBadPrincipal l.who) × HasBadStep l.steps
RefusesPaths l BadIndirect = ⊥
RefusesPaths l BadEnd =
    (¬ HasBadPrincipal l.who) × AreStepWords l.steps × HasBadEnd l.to l.namespace
RefusesPaths l BadLogs = ⊥
RefusesPaths l BadRoleName = ⊥
RefusesPaths l NoMemory = Unit {0}
