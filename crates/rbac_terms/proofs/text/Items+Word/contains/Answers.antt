use Rattle.std.proofs.Common.{rules}
use Rattle.rbac_terms.proofs.text.Items+Word.contains.Goals as goal

pub returns : goal.returns
returns c = search rules
