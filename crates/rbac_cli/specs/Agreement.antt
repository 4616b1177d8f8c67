-- How the answers to `paths`, `who-can --indirect` and `powers` over one export agree.
use Rattle.std.specs.Prelude.{◌≡◌, ◌↔◌, ◌++◌, [], List, All, Any, Contains}
use Rattle.rbac_terms.specs.Text.{Text, BeginsWith}
use Rattle.rbac_terms.specs.Targets.{What}
use Rattle.rbac_terms.specs.Principals.{Who}
use Rattle.rbac_model.specs.Holders.{IsKeyFor}
use Rattle.rbac_manifest.specs.Load.{LoadedView}
use Rattle.rbac_text.specs.Row.{field_and_tab}
use Rattle.rbac_paths.specs.Agreement.{AgreeOn}
use Rattle.rbac_paths.specs.OnePath.{IsTo}
use Rattle.rbac_paths.specs.Paths.{ArePathsOf, PathView}
use Rattle.rbac_steps.specs.Steps.{step_word}
use Rattle.rbac_paths.specs.WaysTo.{AreWaysTo, WayView}
use Rattle.rbac_steps.specs.declared.steps.Step.{Step}
use Rattle.rbac_question.specs.declared.command.Question.{Question}
use Rattle.rbac_question.specs.declared.path_end.PathEnd.{PathEnd}
use Rattle.rbac_cli.specs.Groups.{named_in}
use Rattle.rbac_cli.specs.Meant.{IsMeant, access_meant}
use Rattle.rbac_cli.specs.Out.{paths_text, ways_text}
use Rattle.rbac_cli.specs.TextLines.{lines_in}
use Rattle.rbac_cli.specs.declared.outcome.Status.{Status}
use Rattle.rbac_cli.specs.declared.outcome.Status.TheVariants.{One}

-- the lines of `paths` for a principal agree with those of `who-can --indirect` for a question:
-- they are the lines of paths and ways that agree about what the question means
pub record LinesAgree (l : LoadedView) (steps : List Step) (who : Who) (q : Question)
    (text other : Text) : Type 0 where
  pub target : What
  pub namespace : Text
  pub meant : IsMeant l.catalogue.entries q target namespace
  pub paths : List PathView
  pub are_paths : ArePathsOf l.policy (named_in l) steps who paths
  pub lines_of_paths : text ≡ paths_text paths
  pub ways : List WayView
  pub are_ways : AreWaysTo l.policy (named_in l) steps (access_meant q target namespace) ways
  pub lines_of_ways : other ≡ ways_text ways
  pub agree : AgreeOn l.policy who (access_meant q target namespace) paths ways

-- the lines of `paths --to` are lines of `paths`; the status is 1 exactly if none of these is for
-- TO, and then there are none
pub record PathAgrees (to : PathEnd) (text other : Text) (ending : Status) : Type 0 where
  pub paths : List PathView
  pub lines_of_paths : text ≡ paths_text paths
  pub path : List PathView
  pub lines_of_path : other ≡ paths_text path
  pub listed : All (Contains paths) path
  pub status : (ending ≡ One) ↔ (¬ Any (λ x. IsTo to.what to.namespace x.node) paths)
  pub none : ending ≡ One → other ≡ []

-- a line of `powers` is for this key: its first two fields are a step and the key
abbrev pub HasPowerLine : Text → Text → Type 0
HasPowerLine text key = Any
    (λ line. (step : Step) × BeginsWith line (field_and_tab (step_word step) ++ field_and_tab key))
    (lines_in text)

-- no line of `powers` is for the key of the principal or of one of its groups
abbrev pub HasNoPowerLine : Text → Who → Type 0
HasNoPowerLine text who = (key : Text) → IsKeyFor who key → ¬ HasPowerLine text key
