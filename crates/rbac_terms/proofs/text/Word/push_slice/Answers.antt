use Rattle.std.proofs.Common.{rules}
use Rattle.rbac_terms.proofs.text.Word.push_slice.Goals as goal

pub returns-in-Own-clause-ok : goal.returns-in-Own-clause-ok
returns-in-Own-clause-ok c = search rules

pub returns-in-Own-clause-err : goal.returns-in-Own-clause-err
returns-in-Own-clause-err c = search rules
