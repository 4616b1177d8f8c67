use Rattle.std.proofs.Common.{rules}
use Rattle.rbac_model.proofs.objects.Objects.from_given.Goals as goal

pub returns-clause-kept : goal.returns-clause-kept
returns-clause-kept c = search rules
