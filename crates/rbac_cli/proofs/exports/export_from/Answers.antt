-- What a load answers. A search finds both. They have answers here because a check that doesn't find one would otherwise take minutes to
-- print what is known there.
use Rattle.std.proofs.Common.{rules}
use Rattle.rbac_cli.proofs.exports.export_from.Goals as goal

pub returns-clause-ok : goal.returns-clause-ok
returns-clause-ok c = search rules

pub returns-clause-fault : goal.returns-clause-fault
returns-clause-fault c = search rules
