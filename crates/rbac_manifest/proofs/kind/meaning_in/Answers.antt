use Rattle.std.proofs.Common.{refl}
use Rattle.std.proofs.lemmas.List.{drop_all}
use Rattle.rbac_manifest.proofs.kind.meaning_in.Goals as goal

pub returns : goal.returns
returns c = rw (← c.loop-row.invariant, drop_all c.loop-row.row-index c.args.rows.now c.loop-row-test.false) refl
