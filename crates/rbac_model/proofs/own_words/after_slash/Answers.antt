use Rattle.std.proofs.lemmas.Slice.Eq.{strip_prefix_is}
use Rattle.std.proofs.lemmas.Bool.Decides.{Decides-eqb}
use Rattle.rbac_model.proofs.UrlWords.{after_slash_is}
use Rattle.rbac_model.proofs.own_words.after_slash.Goals as goal

pub returns : goal.returns
returns c = after_slash_is c.args.text.now c.as_slice.result.now c.strip_prefix.result c.as_slice.ensures (strip_prefix_is Decides-eqb c.args.text.now c.as_slice.result.now c.strip_prefix.result c.strip_prefix.ensures.cases)
