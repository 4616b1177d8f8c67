-- What the words of a command line mean, according to `clap`'s matches.
use Rattle.std.specs.Prelude.{◌≡◌, ◌||◌, ◌⊎◌, ◌<◌, ◌^◌, ◌++◌, ℕ, Bool, List, [], length, Option}
use Rattle.std.specs.Prelude.{Some, None, Result, map, codes, MatchResult, string_bytes}
use Rattle.std.specs.Prelude.{if◌then◌else◌}
use Rattle.std.specs.Str.{bytes_eq}
use Rattle.std.specs.Str.Parse.{IsNumeral, without_leading_plus, digits_value}
use Rattle.clap.specs.Words.{Row, Text, fault_of, first_of, kind_of, one_of, subcommand_of}
use Rattle.clap.specs.Kinds.{IsAmong}
use Rattle.rbac_question.specs.Lines.{QuestionParts, CanIParts, WhoParts, RulesParts, LintParts}
use Rattle.rbac_question.specs.Lines.{MeansCanI, MeansRules, MeansLint, AcceptsCanI, RefusesCanI}
use Rattle.rbac_question.specs.Lines.{HasBadToken, HasBadPrincipal, HasBadCode, HasBadChange}
use Rattle.rbac_question.specs.Lines.{IsMarkGiven, MeansDiff}
use Rattle.rbac_question.specs.LeastLines.{LeastParts, AcceptsLeast, MeansLeast, RefusesLeast}
use Rattle.rbac_question.specs.PathsLines.{PathsParts, AcceptsPaths, MeansPaths, RefusesPaths}
use Rattle.rbac_question.specs.UnusedLines.{UnusedParts, MeansUnused, RefusesUnused}
use Rattle.rbac_question.specs.WhoCanLines.{WhoCanParts, MeansWhoCan, AcceptsWhoCan, RefusesWhoCan}
use Rattle.rbac_question.specs.declared.command.Action.{Action}
use Rattle.rbac_question.specs.declared.command.Action.TheVariants.{CanI, WhoCan, WaysTo, Rules}
use Rattle.rbac_question.specs.declared.command.Action.TheVariants.{Matrix, Universe, Lint, Unused}
use Rattle.rbac_question.specs.declared.command.Action.TheVariants.{Powers, Paths, Diff, Least}
use Rattle.rbac_question.specs.declared.command.Command.{Command}
use Rattle.rbac_question.specs.declared.command.VerdictOptions.{VerdictOptions}
use Rattle.rbac_question.specs.declared.fault.QuestionFault.{QuestionFault}
use Rattle.rbac_question.specs.declared.fault.QuestionFault.TheVariants as question
use Rattle.rbac_question.specs.declared.line.DiffLine.{DiffLine}
use Rattle.rbac_command.specs.App.{rbac_app}
use Rattle.rbac_command.specs.Values.{value_at, has_flag, texts_at}
use Rattle.rbac_command.specs.HolderOptions.{holder_options_in}
use Rattle.rbac_command.specs.MatrixOptions.{matrix_options_in}
use Rattle.rbac_command.specs.declared.fault.UsageFault.{UsageFault}
use Rattle.rbac_command.specs.declared.fault.UsageFault.TheVariants.{Refused, Question as Asked}

-- ---- the parts of a line

-- the files of a `diff` line, in order: those of `--before`, `--after`, `--without` and `--with`
abbrev pub diff_files_in : List Row → List Text
diff_files_in rows = texts_at (codes "before") rows ++ (texts_at (codes "after") rows
    ++ (texts_at (codes "without") rows ++ texts_at (codes "with") rows))

-- the files of the subcommand of that name, in order
abbrev pub files_in : Text → List Row → List Text
files_in name rows = if bytes_eq name (codes "diff")
    then diff_files_in rows
    else texts_at (codes "files") rows

-- the subcommand of that name reads logs
abbrev pub has_logs : Text → Bool
has_logs name = bytes_eq name (codes "unused") || bytes_eq name (codes "least")

-- the logs of the subcommand of that name, in order
abbrev pub logs_in : Text → List Row → List Text
logs_in name rows = if has_logs name then texts_at (codes "log") rows else []

-- the parts that ask a question
abbrev pub question_in : List Row → QuestionParts
question_in rows = record {
  all_namespaces = has_flag (codes "all") rows;
  in_namespace = has_flag (codes "in-namespace") rows;
  namespace = value_at (codes "namespace") rows;
  subresource = value_at (codes "subresource") rows;
  verb = value_at (codes "verb") rows;
  target = value_at (codes "target") rows;
}

-- what a `can-i` line says of its answer
abbrev pub verdict_options_in : List Row → VerdictOptions
verdict_options_in rows = record {
  quiet = has_flag (codes "quiet") rows;
  why = has_flag (codes "why") rows;
  why_not = has_flag (codes "why-not") rows;
}

-- the parts of a `can-i` line
abbrev pub parts_in : List Row → CanIParts
parts_in rows = record {
  user = value_at (codes "as") rows;
  groups = value_at (codes "groups") rows;
  whole_groups = texts_at (codes "group") rows;
  options = verdict_options_in rows;
  question = question_in rows;
}

-- the parts of a `who-can` line
abbrev pub who_can_in : List Row → WhoCanParts
who_can_in rows = record {
  indirect = has_flag (codes "indirect") rows;
  steps = first_of (codes "steps") rows;
  options = holder_options_in rows;
  question = question_in rows;
}

-- the parts of a line that name a principal
abbrev pub who_in : List Row → WhoParts
who_in rows = record {
  key = value_at (codes "who") rows;
  groups = value_at (codes "groups") rows;
  whole_groups = texts_at (codes "group") rows;
}

-- the parts of a `rules` line
abbrev pub rules_line_in : List Row → RulesParts
rules_line_in rows = record {
  who = who_in rows;
  namespace = value_at (codes "namespace") rows;
  all_namespaces = has_flag (codes "all") rows;
}

-- the parts of a `paths` line
abbrev pub paths_line_in : List Row → PathsParts
paths_line_in rows = record {
  who = who_in rows;
  steps = first_of (codes "steps") rows;
  to = first_of (codes "to") rows;
  namespace = value_at (codes "namespace") rows;
}

-- the parts of a `lint` line
abbrev pub lint_in : List Row → LintParts
lint_in rows = record {
  only = first_of (codes "only") rows;
  skip_system = has_flag (codes "skip-system") rows;
}

-- how many files each option of a `diff` line gives
abbrev pub diff_in : List Row → DiffLine
diff_in rows = record {
  before_files = length (texts_at (codes "before") rows);
  after_files = length (texts_at (codes "after") rows);
  without_files = length (texts_at (codes "without") rows);
  with_files = length (texts_at (codes "with") rows);
}

-- the parts of an `unused` line
abbrev pub unused_in : List Row → UnusedParts
unused_in rows = record {
  skip_system = has_flag (codes "skip-system") rows;
  logs = texts_at (codes "log") rows;
  files = length (texts_at (codes "files") rows);
}

-- the parts of a `least` line
abbrev pub least_in : List Row → LeastParts
least_in rows = record {
  key = value_at (codes "who") rows;
  names = has_flag (codes "names") rows;
  name = first_of (codes "name") rows;
  logs = texts_at (codes "log") rows;
  files = length (texts_at (codes "files") rows);
}

-- the text is a 32-bit number: decimal digits, with an optional plus sign before them
abbrev pub IsNumberText : Text → Type 0
IsNumberText text = IsNumeral 10 (without_leading_plus text)
    × (digits_value 10 (without_leading_plus text) < 2 ^ 32)

-- the number that a text reads as; none if there is no text or it isn't a number
abbrev pub IsNumber : Option Text → Option ℕ → Type 0
IsNumber None number = number ≡ None
IsNumber (Some text) None = ¬ IsNumberText text
IsNumber (Some text) (Some n) = IsNumberText text
    × (n ≡ digits_value 10 (without_leading_plus text))

-- the number under an id
abbrev pub IsNumberAt : Text → List Row → Option ℕ → Type 0
IsNumberAt id rows number = IsNumber (one_of id rows) number

-- ---- a command

-- the text is the name of a subcommand
abbrev pub is_known : Text → Bool
is_known name = bytes_eq name (codes "can-i")
    || (bytes_eq name (codes "who-can")
    || (bytes_eq name (codes "rules")
    || (bytes_eq name (codes "matrix")
    || (bytes_eq name (codes "universe")
    || (bytes_eq name (codes "lint")
    || (bytes_eq name (codes "powers")
    || (bytes_eq name (codes "paths")
    || (bytes_eq name (codes "diff")
    || (bytes_eq name (codes "unused") || bytes_eq name (codes "least"))))))))))

-- what the subcommand of that name does, according to its matches
abbrev pub DoesAction : Text → List Row → Action → Type 0
DoesAction name rows (CanI principal options question) =
    (name ≡ codes "can-i") × AcceptsCanI (parts_in rows)
    × MeansCanI (parts_in rows) (CanI principal options question)
DoesAction name rows (WhoCan options question) =
    (name ≡ codes "who-can") × AcceptsWhoCan (who_can_in rows)
    × MeansWhoCan (who_can_in rows) (WhoCan options question)
DoesAction name rows (WaysTo chosen question) =
    (name ≡ codes "who-can") × AcceptsWhoCan (who_can_in rows)
    × MeansWhoCan (who_can_in rows) (WaysTo chosen question)
DoesAction name rows (Rules principal scope) =
    (name ≡ codes "rules") × MeansRules (rules_line_in rows) (Rules principal scope)
DoesAction name rows (Matrix options after limit) =
    (name ≡ codes "matrix") × (options ≡ matrix_options_in rows)
    × IsMarkGiven (first_of (codes "after") rows) after × IsNumberAt (codes "limit") rows limit
DoesAction name rows Universe = name ≡ codes "universe"
DoesAction name rows (Lint only skip_system) =
    (name ≡ codes "lint") × MeansLint (lint_in rows) (Lint only skip_system)
DoesAction name rows (Unused skip_system) =
    (name ≡ codes "unused") × MeansUnused (unused_in rows) (Unused skip_system)
DoesAction name rows (Least user names called) =
    (name ≡ codes "least") × AcceptsLeast (least_in rows)
    × MeansLeast (least_in rows) (Least user names called)
DoesAction name rows Powers = name ≡ codes "powers"
DoesAction name rows (Paths principal chosen to) =
    (name ≡ codes "paths") × AcceptsPaths (paths_line_in rows)
    × MeansPaths (paths_line_in rows) (Paths principal chosen to)
DoesAction name rows (Diff before change) =
    (name ≡ codes "diff") × MeansDiff (diff_in rows) (Diff before change)

-- the command is what the matches of the subcommand of that name mean
pub record MeansRows (name : Text) (rows : List Row) (c : Command) : Type 0 where
  pub action : DoesAction name rows c.action
  pub files : map string_bytes c.files.items ≡ files_in name rows
  pub logs : map string_bytes c.logs.items ≡ logs_in name rows

-- the command is what the subcommand that was found means
abbrev pub Means : Option (Text × List Row) → Command → Type 0
Means None c = ⊥
Means (Some p) c = MeansRows p.0 p.1 c

-- ---- refusals

-- the refusal of a subcommand's matches: U4 of `matrix`, U5 of `rules`, U6 of `lint`, U7 of `diff`,
-- U11 of `unused`, U5, U11 and U12 of `least`, U5, U8 and U10 of `paths`, U2 and U3 of `can-i`, U2,
-- U3, U8 and U9 of `who-can`, and none of `universe` and `powers`; out of memory may come at any time
abbrev pub RefusesAction : Text → List Row → QuestionFault → Type 0
RefusesAction name rows question.NoMemory = Unit {0}
RefusesAction name rows question.BadToken = (name ≡ codes "matrix")
    × HasBadToken (first_of (codes "after") rows)
RefusesAction name rows question.BadPrincipal =
    (((name ≡ codes "rules") ⊎ (name ≡ codes "paths")) × HasBadPrincipal (who_in rows))
    ⊎ ((name ≡ codes "least") × RefusesLeast (least_in rows) question.BadPrincipal)
RefusesAction name rows question.BadCode = (name ≡ codes "lint")
    × HasBadCode (first_of (codes "only") rows)
RefusesAction name rows question.BadStep =
    ((name ≡ codes "paths") × RefusesPaths (paths_line_in rows) question.BadStep)
    ⊎ ((name ≡ codes "who-can") × RefusesWhoCan (who_can_in rows) question.BadStep)
RefusesAction name rows question.BadIndirect = (name ≡ codes "who-can")
    × RefusesWhoCan (who_can_in rows) question.BadIndirect
RefusesAction name rows question.BadEnd = (name ≡ codes "paths")
    × RefusesPaths (paths_line_in rows) question.BadEnd
RefusesAction name rows question.BadLogs =
    ((name ≡ codes "unused") × RefusesUnused (unused_in rows) question.BadLogs)
    ⊎ ((name ≡ codes "least") × RefusesLeast (least_in rows) question.BadLogs)
RefusesAction name rows question.BadRoleName = (name ≡ codes "least")
    × RefusesLeast (least_in rows) question.BadRoleName
RefusesAction name rows question.BadChange = (name ≡ codes "diff") × HasBadChange (diff_in rows)
RefusesAction name rows e = ((name ≡ codes "can-i") × RefusesCanI (parts_in rows) e)
    ⊎ ((name ≡ codes "who-can") × RefusesWhoCan (who_can_in rows) e)

-- a command line is refused with the refusal of its subcommand's matches
abbrev pub IsCauseOf : Option (Text × List Row) → QuestionFault → Type 0
IsCauseOf None e = ⊥
IsCauseOf (Some p) e = RefusesAction p.0 p.1 e

-- the refusal of a command line: U1 if `clap` refuses the words, otherwise that of its subcommand;
-- out of memory may come at any time
abbrev pub IsUsageFault : List Text → UsageFault → Type 0
IsUsageFault words (Refused e) = IsAmong (kind_of e) (fault_of rbac_app words)
IsUsageFault words (Asked question.NoMemory) = Unit {0}
IsUsageFault words (Asked e) = (fault_of rbac_app words ≡ [])
    × IsCauseOf (subcommand_of rbac_app words) e

-- what `command_of` answers
abbrev pub IsAnswer : List Text → Result Command UsageFault → Type 0
IsAnswer words r = MatchResult r
    (λ c. (fault_of rbac_app words ≡ []) × Means (subcommand_of rbac_app words) c)
    (IsUsageFault words)
