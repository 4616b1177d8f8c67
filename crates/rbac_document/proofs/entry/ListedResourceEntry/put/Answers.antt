use Rattle.std.proofs.Common.{codes}
use Rattle.json.specs.Print.{quoted}
use Rattle.rbac_document.specs.Document.{rest_of_resource}
use Rattle.rbac_document.proofs.Pieces.{on_ok, three}
use Rattle.rbac_document.proofs.entry.ListedResourceEntry.put.Goals as goal

pub returns : goal.returns
returns c =
    let r = c.args.self.now in
    on_ok c.extend_from_slice.result _ _ _ c.extend_from_slice.ensures.items
    (λ last. three c.args.document.now.items (codes "{\"group\": ") (quoted r.group) (codes ", \"resource\": ") (quoted r.text) (rest_of_resource r.namespaced) c.put_after.new.document.items c.put_after-2.new.document.items _
    (rw c.as_bytes.ensures at c.in_ok-put_after.ensures) (rw c.as_bytes-2.ensures at c.in_ok-put_after-2.ensures) (rw c.rest_of_resource.ensures at last))
