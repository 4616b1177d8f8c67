use Rattle.std.proofs.Common.{codes}
use Rattle.rbac_document.specs.Document.{list_text, member_text}
use Rattle.rbac_document.specs.LeastDocument.{bound_text, bounds_of}
use Rattle.rbac_document.proofs.Pieces.{on_ok, between}
use Rattle.rbac_document.proofs.least.put_least.Goals as goal

pub returns : goal.returns
returns c =
    on_ok c.extend_from_slice-2.result _ _ _ c.extend_from_slice-2.ensures.items
    (λ last. between c.args.document.now.items (codes "{\n  \"apiVersion\": \"v1\",\n  \"kind\": \"List\"")
    (member_text (codes "items") (list_text bound_text (bounds_of c.args.name.now c.args.user.now c.args.least.now))) (codes "\n}\n")
    c.extend_from_slice.new.self.items c.put_member.new.document.items _ c.in_ok-extend_from_slice.ensures.items
    (rw (c.as_slice.ensures.value, c.in_ok-bounds.ensures) at c.in_ok-put_member.ensures) last)
