-- The options of `matrix` that choose which rows are listed.
use Rattle.std.specs.Prelude.{List, codes}
use Rattle.clap.specs.Words.{App, Row, Rule, with_rule}
use Rattle.rbac_question.specs.declared.command.MatrixOptions.{MatrixOptions}
use Rattle.rbac_command.specs.Flags.{every_rule, flag_rule}
use Rattle.rbac_command.specs.Values.{has_flag}

-- `--once`
abbrev pub once_rule : Rule
once_rule = flag_rule (codes "once")

-- [--every] [--once]
abbrev pub with_matrix_options : App → App
with_matrix_options a = with_rule (with_rule a every_rule) once_rule

-- which of these options are given
abbrev pub matrix_options_in : List Row → MatrixOptions
matrix_options_in rows = record {
  every = has_flag (codes "every") rows;
  once = has_flag (codes "once") rows;
}
