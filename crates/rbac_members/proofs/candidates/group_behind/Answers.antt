use Rattle.std.proofs.lemmas.Slice.Eq.{strip_prefix_is}
use Rattle.std.proofs.lemmas.Bool.Decides.{Decides-eqb}
use Rattle.rbac_members.proofs.candidates.group_behind.Goals as goal

pub returns : goal.returns
returns c = rw c.as_bytes.ensures at (strip_prefix_is Decides-eqb c.as_bytes.result.now c.args.prefix.now c.strip_prefix.result c.strip_prefix.ensures.cases)
