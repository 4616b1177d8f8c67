use Rattle.std.proofs.Common.{◌∙◌}
use Rattle.rbac_log.proofs.Proper.{made}
use Rattle.rbac_log.proofs.asked.resource_target.Goals as goal

pub returns : goal.returns
returns c = c.ok.ensures.value ∙ made _ c.resource.result c.resource.ensures
