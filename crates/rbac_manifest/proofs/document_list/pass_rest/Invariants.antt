use Rattle.std.proofs.Common.{length}
use Rattle.rbac_manifest.proofs.DocumentList.{Passes}
use Rattle.rbac_manifest.proofs.document_list.pass_rest.Given as goal

abbrev pub invariant-rest : goal.invariant-rest
invariant-rest l = Passes l.fn.unread l.unread

abbrev pub decreases-rest : goal.decreases-rest
decreases-rest l = length l.unread
