use Rattle.std.proofs.lemmas.Slice.Eq.{strip_suffix_is}
use Rattle.std.proofs.lemmas.Bool.Decides.{Decides-eqb}
use Rattle.rbac_terms.proofs.Texts.{without_star_is}
use Rattle.rbac_terms.proofs.matching.without_star.Goals as goal

pub returns : goal.returns
returns c = without_star_is c.args.text.now c.as_slice.result.now c.strip_suffix.result c.as_slice.ensures (strip_suffix_is Decides-eqb c.args.text.now c.as_slice.result.now c.strip_suffix.result c.strip_suffix.ensures.cases)
