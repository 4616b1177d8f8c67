use Rattle.rbac_ways.proofs.Numbering.{number_is}
use Rattle.rbac_ways.proofs.joining.number_of.Goals as goal

pub returns : goal.returns
returns c = rw c.ok.ensures.value (number_is c.args.words.now c.args.word.now c.binary_search.result c.requires c.binary_search.ensures.bound c.binary_search.ensures.position)
