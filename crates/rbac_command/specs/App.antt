-- The command line of `rbacaudit`, as `clap` sees it.
use Rattle.std.specs.Prelude.{Some, codes, pos, true}
use Rattle.clap.specs.Lexer.{usize_max}
use Rattle.clap.specs.Words.{App, Rule, Text, new_app, new_rule, with_rule, with_subcommand}
use Rattle.clap.specs.declared.builder.ArgAction.TheVariants.{SetTrue, Append}
use Rattle.clap.specs.declared.builder.value_parser.ValueParser.TheVariants.{Signed}
use Rattle.rbac_command.specs.Flags.{flag_rule, why_not_rule, why_rule}
use Rattle.rbac_command.specs.HolderOptions.{with_holder_options}
use Rattle.rbac_command.specs.MatrixOptions.{with_matrix_options}

-- `--as USER`, which must be given
abbrev pub user_rule : Rule
user_rule = record (new_rule (codes "as")) {
  long = Some (codes "as");
  value_names = 1;
  required = true;
}

-- `--groups A,B`
abbrev pub groups_rule : Rule
groups_rule = record (new_rule (codes "groups")) { long = Some (codes "groups"); value_names = 1 }

-- `--group G`, which may be given several times
abbrev pub group_rule : Rule
group_rule = record (new_rule (codes "group")) {
  long = Some (codes "group");
  value_names = 1;
  action = Some Append;
}

-- `-n NS`, `--namespace NS`
abbrev pub namespace_rule : Rule
namespace_rule = record (new_rule (codes "namespace")) {
  short = Some 110;
  long = Some (codes "namespace");
  value_names = 1;
}

-- `-A`, `--all-namespaces`
abbrev pub all_rule : Rule
all_rule = record (new_rule (codes "all")) {
  short = Some 65;
  long = Some (codes "all-namespaces");
  action = Some SetTrue;
}

-- `--in-namespace`
abbrev pub in_namespace_rule : Rule
in_namespace_rule = flag_rule (codes "in-namespace")

-- `--subresource S`
abbrev pub subresource_rule : Rule
subresource_rule = record (new_rule (codes "subresource")) {
  long = Some (codes "subresource");
  value_names = 1;
}

-- `-q`, `--quiet`
abbrev pub quiet_rule : Rule
quiet_rule = record (new_rule (codes "quiet")) {
  short = Some 113;
  long = Some (codes "quiet");
  action = Some SetTrue;
}

-- WHO, which must be given
abbrev pub who_rule : Rule
who_rule = record (new_rule (codes "who")) { value_names = 1; required = true }

-- VERB, which must be given
abbrev pub verb_rule : Rule
verb_rule = record (new_rule (codes "verb")) { value_names = 1; required = true }

-- TARGET, which must be given
abbrev pub target_rule : Rule
target_rule = record (new_rule (codes "target")) { value_names = 1; required = true }

-- `--after TOKEN`
abbrev pub after_rule : Rule
after_rule = record (new_rule (codes "after")) { long = Some (codes "after"); value_names = 1 }

-- `--limit N`, for which `clap` takes a number from 1 to 1,000,000
abbrev pub limit_rule : Rule
limit_rule = record (new_rule (codes "limit")) {
  long = Some (codes "limit");
  value_names = 1;
  parser = Some (Signed (pos 1) (pos 1000000));
}

-- `--only CODES`
abbrev pub only_rule : Rule
only_rule = record (new_rule (codes "only")) { long = Some (codes "only"); value_names = 1 }

-- `--steps STEPS`
abbrev pub steps_rule : Rule
steps_rule = record (new_rule (codes "steps")) { long = Some (codes "steps"); value_names = 1 }

-- `--to TO`
abbrev pub to_rule : Rule
to_rule = record (new_rule (codes "to")) { long = Some (codes "to"); value_names = 1 }

-- `--indirect`
abbrev pub indirect_rule : Rule
indirect_rule = flag_rule (codes "indirect")

-- `--skip-system`
abbrev pub skip_system_rule : Rule
skip_system_rule = flag_rule (codes "skip-system")

-- `--log LOG`, which must be given, and may be given several times
abbrev pub log_rule : Rule
log_rule = record (new_rule (codes "log")) {
  long = Some (codes "log");
  value_names = 1;
  required = true;
  action = Some Append;
}

-- `--names`
abbrev pub names_rule : Rule
names_rule = flag_rule (codes "names")

-- `--name NAME`
abbrev pub name_rule : Rule
name_rule = record (new_rule (codes "name")) { long = Some (codes "name"); value_names = 1 }

-- [FILE]..
abbrev pub files_rule : Rule
files_rule = record (new_rule (codes "files")) { value_names = 1; action = Some Append }

-- an option with this long form and one file or more
abbrev pub some_files_rule : Text → Rule
some_files_rule name = record (new_rule name) {
  long = Some name;
  action = Some Append;
  range = Some (record { start_inclusive = 1; end_inclusive = usize_max });
  value_names = 1;
}

-- `--before FILE..`, which must be given
abbrev pub before_files_rule : Rule
before_files_rule = record (some_files_rule (codes "before")) { required = true }

-- `--after FILE..`
abbrev pub after_files_rule : Rule
after_files_rule = some_files_rule (codes "after")

-- `--without FILE..`
abbrev pub without_files_rule : Rule
without_files_rule = some_files_rule (codes "without")

-- `--with FILE..`
abbrev pub with_files_rule : Rule
with_files_rule = some_files_rule (codes "with")

-- the options that give the groups of a user
abbrev pub with_groups : App → App
with_groups a = with_rule (with_rule a groups_rule) group_rule

-- the options that give the namespace and the subresource
abbrev pub with_scope : App → App
with_scope a =
    with_rule (with_rule
    (with_rule (with_rule a namespace_rule) all_rule) in_namespace_rule) subresource_rule

-- VERB TARGET [FILE]..
abbrev pub with_question : App → App
with_question a = with_rule (with_rule (with_rule a verb_rule) target_rule) files_rule

-- WHO [FILE]..
abbrev pub with_who : App → App
with_who a = with_rule (with_rule a who_rule) files_rule

-- can-i --as USER [--groups A,B] [--group G].. [-n NS] [-A] [--in-namespace] [--subresource S] [-q]
-- [--why] [--why-not] VERB TARGET [FILE]..
abbrev pub can_i_app : App
can_i_app =
    with_question (with_rule (with_rule
    (with_rule (with_scope (with_groups
    (with_rule (new_app (codes "can-i")) user_rule))) quiet_rule) why_rule) why_not_rule)

-- who-can [-n NS] [-A] [--in-namespace] [--subresource S] [--anywhere] [--any-name] [--every]
-- [--members] [--why] [--indirect] [--steps STEPS] VERB TARGET [FILE]..
abbrev pub who_can_app : App
who_can_app =
    with_question (with_rule
    (with_rule (with_holder_options (with_scope (new_app (codes "who-can")))) indirect_rule)
    steps_rule)

-- rules [--groups A,B] [--group G].. [-n NS] [-A] WHO [FILE]..
abbrev pub rules_app : App
rules_app =
    with_who (with_rule
    (with_rule (with_groups (new_app (codes "rules"))) namespace_rule) all_rule)

-- matrix [--every] [--once] [--after TOKEN] [--limit N] [FILE]..
abbrev pub matrix_app : App
matrix_app =
    with_rule (with_rule
    (with_rule (with_matrix_options (new_app (codes "matrix"))) after_rule) limit_rule)
    files_rule

-- universe [FILE]..
abbrev pub universe_app : App
universe_app = with_rule (new_app (codes "universe")) files_rule

-- lint [--only CODES] [--skip-system] [FILE]..
abbrev pub lint_app : App
lint_app =
    with_rule (with_rule
    (with_rule (new_app (codes "lint")) only_rule) skip_system_rule) files_rule

-- powers [FILE]..
abbrev pub powers_app : App
powers_app = with_rule (new_app (codes "powers")) files_rule

-- paths [--groups A,B] [--group G].. [--steps STEPS] [--to TO] [-n NS] WHO [FILE]..
abbrev pub paths_app : App
paths_app = with_who (with_rule
    (with_rule (with_rule (with_groups (new_app (codes "paths"))) steps_rule) to_rule)
    namespace_rule)

-- diff --before FILE.. [--after FILE..] [--without FILE..] [--with FILE..]
abbrev pub diff_app : App
diff_app =
    with_rule (with_rule
    (with_rule (with_rule (new_app (codes "diff")) before_files_rule) after_files_rule)
    without_files_rule) with_files_rule

-- unused --log LOG [--log LOG].. [--skip-system] [FILE]..
abbrev pub unused_app : App
unused_app =
    with_rule (with_rule
    (with_rule (new_app (codes "unused")) log_rule) skip_system_rule) files_rule

-- least --log LOG [--log LOG].. [--names] [--name NAME] WHO [FILE]..
abbrev pub least_app : App
least_app = with_who (with_rule
    (with_rule (with_rule (new_app (codes "least")) log_rule) names_rule) name_rule)

-- the program: it has a version, needs a subcommand, and has no subcommand `help`
abbrev pub as_program : App → App
as_program a = record a {
  top = record a.top {
    has_version = true;
    disable_help_subcommand = true;
    subcommand_required = true;
  };
}

-- the program without its subcommands
abbrev pub bare_app : App
bare_app = as_program (new_app (codes "rbacaudit"))

-- the subcommands that read logs
abbrev pub with_log_readers : App → App
with_log_readers a = with_subcommand (with_subcommand a unused_app.top) least_app.top

-- the whole command line
unfoldable pub rbac_app : App
rbac_app =
    with_log_readers (with_subcommand (with_subcommand (with_subcommand (with_subcommand
    (with_subcommand (with_subcommand (with_subcommand
    (with_subcommand (with_subcommand bare_app can_i_app.top) who_can_app.top) rules_app.top)
    matrix_app.top) universe_app.top) lint_app.top) powers_app.top) paths_app.top) diff_app.top)
