use Rattle.std.proofs.Common.{List, ℕ, Global, Bor}
use Rattle.std.specs.Prelude.{Box}
use Rattle.std.specs.Box.{box_value}
use Rattle.clap.specs.Words.{found_of, rows_of}
use Rattle.clap.specs.declared.parser.matches.ArgMatches.{ArgMatches}
use Rattle.clap.specs.declared.parser.matches.ArgMatches.TheViews.{out-ArgMatches, out-SubCommand}
use Rattle.clap.specs.declared.parser.matches.SubCommand.{SubCommand}
use Rattle.rbac_command.proofs.Facts.{pair_up}
use Rattle.rbac_command.proofs.read.subcommand_of.Goals as goal

pub returns : goal.returns
returns c = pair_up
    (λ (p : Bor (List ℕ) × Bor ArgMatches). p.0.now)
    (λ (p : Bor (List ℕ) × Bor ArgMatches). rows_of (found_of p.1.now))
    (λ (b : Box SubCommand Global). (out-SubCommand (box_value b)).name.now)
    (λ (b : Box SubCommand Global). rows_of (found_of (out-SubCommand (box_value b)).matches))
    c.subcommand.result (out-ArgMatches c.args.matches.now).subcommand c.subcommand.ensures.name c.subcommand.ensures.rows
