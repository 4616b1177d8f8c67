use Rattle.std.proofs.Common.{rules}
use Rattle.rbac_model.proofs.own_words.allows_each_path.Goals as goal

pub returns : goal.returns
returns c = search rules
