use Rattle.rbac_manifest.proofs.DocumentList.{GoesOn}
use Rattle.rbac_manifest.proofs.document_list.items_of.Given as goal

abbrev pub invariant-loop-place : goal.invariant-loop-place
invariant-loop-place l = GoesOn l.implied l.fn.unread l.place l.unread l.contents.items
