-- What the parts of an `unused` line mean.
use Rattle.std.specs.Prelude.{◌≡◌, ℕ, Bool, List}
use Rattle.rbac_terms.specs.Text.{Text}
use Rattle.rbac_question.specs.Logs.{HasBadLogs}
use Rattle.rbac_question.specs.declared.command.Action.{Action}
use Rattle.rbac_question.specs.declared.command.Action.TheVariants.{Unused}
use Rattle.rbac_question.specs.declared.fault.QuestionFault.{QuestionFault}
use Rattle.rbac_question.specs.declared.fault.QuestionFault.TheVariants.{BadLogs}

-- the parts of an `unused` line: `--skip-system`, a name for each `--log`, in order, and how many
-- files it has
pub record UnusedParts : Type 0 where
  pub skip_system : Bool
  pub logs : List Text
  pub files : ℕ

-- what an `unused` line means: it lists what no request of the logs used; `--skip-system` leaves
-- out Kubernetes' own bindings
abbrev pub MeansUnused : UnusedParts → Action → Type 0
MeansUnused l (Unused skip_system) = (¬ HasBadLogs l.logs l.files) × (skip_system ≡ l.skip_system)
MeansUnused l action = ⊥

-- the refusal of an `unused` line, which allocates nothing
abbrev pub RefusesUnused : UnusedParts → QuestionFault → Type 0
RefusesUnused l BadLogs = HasBadLogs l.logs l.files
RefusesUnused l e = ⊥
