use Rattle.std.proofs.Common.{◌∙◌, append_assoc}
use Rattle.rbac_document.proofs.Pieces.{on_ok}
use Rattle.rbac_document.proofs.document.put_document.Goals as goal

pub returns : goal.returns
returns c =
    on_ok c.extend_from_slice-2.result _ _ _ c.extend_from_slice-2.ensures.items
    (λ last. rw (c.in_ok-put_member-6.ensures, c.as_slice-6.ensures, c.in_ok-put_member-5.ensures, c.as_slice-5.ensures, c.in_ok-put_member-4.ensures, c.as_slice-4.ensures, c.in_ok-put_member-3.ensures, c.as_slice-3.ensures, c.in_ok-put_member-2.ensures, c.as_slice-2.ensures, c.in_ok-put_member.ensures, c.as_slice.ensures, c.in_ok-extend_from_slice.ensures.items) at last ∙ simp append_assoc)
