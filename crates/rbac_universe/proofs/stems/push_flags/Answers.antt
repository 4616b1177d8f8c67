use Rattle.std.proofs.Common.{sym, ◌∙◌, arith}
use Rattle.std.proofs.lemmas.Grind.{common_steps}
use Rattle.rbac_universe.proofs.StemLists.{flags_each}
use Rattle.rbac_universe.proofs.stems.push_flags.Goals as goal

pub returns : goal.returns
returns c = rw (flags_each c.args.names.now c.args.stem.now (sym c.is_url.ensures ∙ c.if-is_url.false)) (grind (arith, common_steps))
