use Rattle.std.proofs.Common.{rules, append_assoc}
use Rattle.rbac_text.proofs.finding.put_finding.Goals as goal

pub returns : goal.returns
returns c = search (rules, append_assoc)
