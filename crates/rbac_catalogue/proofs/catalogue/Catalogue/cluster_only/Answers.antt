use Rattle.std.proofs.Common.{rules}
use Rattle.rbac_catalogue.proofs.catalogue.Catalogue.cluster_only.Goals as goal

pub returns : goal.returns
returns c = search rules
