use Rattle.std.proofs.Common.{rules}
use Rattle.rbac_catalogue.proofs.catalogue.Catalogue.new.Goals as goal

pub returns : goal.returns
returns c = search rules
