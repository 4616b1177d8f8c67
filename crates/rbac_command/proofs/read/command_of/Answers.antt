use Rattle.std.proofs.Common.{ap, ◌∙◌, Option, List, false}
use Rattle.std.specs.Option.{option_map_or}
use Rattle.clap.specs.Words.{Row, Text}
use Rattle.rbac_command.specs.Meaning.{is_known}
use Rattle.rbac_command.proofs.Facts.{has_known}
use Rattle.rbac_command.proofs.read.command_of.Goals as goal

pub meaning_of-requires : goal.meaning_of-requires
meaning_of-requires c =
    ap (λ (o : Option (Text × List Row)). option_map_or (λ (p : Text × List Row). is_known p.0) o false) c.in_ok-matches.ensures.ok.1 ∙ has_known _ c.in_ok-matches.ensures.ok.0
