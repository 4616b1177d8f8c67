use Rattle.std.proofs.Common.{codes}
use Rattle.json.specs.Print.{quoted}
use Rattle.rbac_document.proofs.Pieces.{on_ok, three}
use Rattle.rbac_document.proofs.least.put_role_ref.Goals as goal

pub returns : goal.returns
returns c =
    on_ok c.extend_from_slice.result _ _ _ c.extend_from_slice.ensures.items
    (λ last. three c.args.document.now.items (codes ", \"roleRef\": {\"apiGroup\": \"rbac.authorization.k8s.io\", \"kind\": ") (quoted c.args.kind.now) (codes ", \"name\": ") (quoted c.args.name.now) (codes "}")
    c.put_after.new.document.items c.put_after-2.new.document.items _ c.in_ok-put_after.ensures (rw c.as_bytes.ensures at c.in_ok-put_after-2.ensures) last)
