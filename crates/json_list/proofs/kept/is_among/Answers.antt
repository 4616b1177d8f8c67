use Rattle.std.proofs.Common.{refl}
use Rattle.std.proofs.lemmas.List.{drop_all}
use Rattle.json_list.proofs.kept.is_among.Goals as goal

pub returns : goal.returns
returns c = rw (← c.loop-known.invariant, drop_all c.loop-known.known-index c.args.names.now c.loop-known-test.false) refl
