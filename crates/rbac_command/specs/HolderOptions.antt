-- The options of `who-can` that choose which holders are listed, and what a line contains.
use Rattle.std.specs.Prelude.{List, codes}
use Rattle.clap.specs.Words.{App, Row, Rule, with_rule}
use Rattle.rbac_question.specs.declared.command.HolderOptions.{HolderOptions}
use Rattle.rbac_command.specs.Flags.{every_rule, flag_rule, why_rule}
use Rattle.rbac_command.specs.Values.{has_flag}

-- `--anywhere`
abbrev pub anywhere_rule : Rule
anywhere_rule = flag_rule (codes "anywhere")

-- `--any-name`
abbrev pub any_name_rule : Rule
any_name_rule = flag_rule (codes "any-name")

-- `--members`
abbrev pub members_rule : Rule
members_rule = flag_rule (codes "members")

-- [--anywhere] [--any-name] [--every] [--members] [--why]
abbrev pub with_holder_options : App → App
with_holder_options a =
    with_rule (with_rule (with_rule
    (with_rule (with_rule a anywhere_rule) any_name_rule) every_rule) members_rule) why_rule

-- which of these options are given
abbrev pub holder_options_in : List Row → HolderOptions
holder_options_in rows = record {
  why = has_flag (codes "why") rows;
  every = has_flag (codes "every") rows;
  anywhere = has_flag (codes "anywhere") rows;
  any_name = has_flag (codes "any-name") rows;
  members = has_flag (codes "members") rows;
}
