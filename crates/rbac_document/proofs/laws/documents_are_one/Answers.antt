use Rattle.rbac_document.proofs.OneDocument.{one_document}
use Rattle.rbac_document.proofs.laws.documents_are_one.Goals as goal

pub returns : goal.returns
returns c = one_document
