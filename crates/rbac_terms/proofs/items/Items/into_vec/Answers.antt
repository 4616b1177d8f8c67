use Rattle.std.proofs.Common.{rules}
use Rattle.rbac_terms.proofs.items.Items.into_vec.Goals as goal

pub returns : goal.returns
returns c = search rules
