use Rattle.std.proofs.Common.{◌≡◌, ◌++◌, OnOk, codes, subst}
use Rattle.rbac_document.specs.LeastDocument.{BoundView, binding_text}
use Rattle.rbac_document.proofs.Pieces.{on_ok, five}
use Rattle.rbac_document.proofs.least.put_binding.Goals as goal

pub returns : goal.returns
unfolding binding_text
returns c =
    subst (λ (b : BoundView). OnOk c.extend_from_slice-2.result (c.extend_from_slice-2.new.self.items ≡ c.args.document.now.items ++ binding_text b)) c.bound.view_is
    (on_ok c.extend_from_slice-2.result _ _ _ c.extend_from_slice-2.ensures.items
    (λ last. five c.args.document.now.items _ _ (codes ", \"subjects\": [") _ (codes "]}") c.put_head.new.document.items c.put_role_ref.new.document.items c.extend_from_slice.new.self.items c.put_subject.new.document.items _
    (rw c.binding_kind.ensures at c.in_ok-put_head.ensures) (rw c.role_kind.ensures at c.in_ok-put_role_ref.ensures) c.in_ok-extend_from_slice.ensures.items c.in_ok-put_subject.ensures last))
