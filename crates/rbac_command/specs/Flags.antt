-- Flags that several commands have.
use Rattle.std.specs.Prelude.{Some, codes}
use Rattle.clap.specs.Words.{Rule, Text, new_rule}
use Rattle.clap.specs.declared.builder.ArgAction.TheVariants.{SetTrue}

-- a flag with this long form
abbrev pub flag_rule : Text → Rule
flag_rule name = record (new_rule name) { long = Some name; action = Some SetTrue }

-- `--every`
abbrev pub every_rule : Rule
every_rule = flag_rule (codes "every")

-- `--why-not`
abbrev pub why_not_rule : Rule
why_not_rule = flag_rule (codes "why-not")

-- `--why`
abbrev pub why_rule : Rule
why_rule = flag_rule (codes "why")
