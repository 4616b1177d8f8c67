use Rattle.std.proofs.lemmas.Slice.Eq.{strip_prefix_is}
use Rattle.std.proofs.lemmas.Bool.Decides.{Decides-eqb}
use Rattle.rbac_terms.proofs.Texts.{after_prefix_is}
use Rattle.rbac_terms.proofs.text.after_prefix.Goals as goal

pub returns : goal.returns
returns c = after_prefix_is _ _ _ (strip_prefix_is Decides-eqb c.args.text.now c.args.prefix.now c.strip_prefix.result c.strip_prefix.ensures.cases)
