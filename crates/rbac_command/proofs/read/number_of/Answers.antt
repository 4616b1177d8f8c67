use Rattle.std.proofs.Common.{subst, Option}
use Rattle.std.specs.Str.Parse.{ParsesUnsigned, ExplainsUnsignedError, HasUnsignedDigitsIfOk}
use Rattle.clap.proofs.WalkLemmas.{one_text-rows}
use Rattle.clap.specs.Words.{Text, found_of, one_text}
use Rattle.rbac_command.specs.Meaning.{IsNumber}
use Rattle.rbac_command.proofs.Numbers.{number_is}
use Rattle.rbac_command.proofs.read.number_of.Goals as goal

pub returns : goal.returns
returns c =
    let found = found_of c.args.matches.now in
    subst (λ (o : Option Text). IsNumber o c.get_one.result) (one_text-rows found c.args.id.now)
    (number_is (λ bs r. ParsesUnsigned 32 10 bs r × ExplainsUnsignedError 10 bs r × HasUnsignedDigitsIfOk bs r) (λ t r g. g.0)
    (one_text found c.args.id.now) c.get_one.result c.get_one.ensures.none c.get_one.ensures.value)
