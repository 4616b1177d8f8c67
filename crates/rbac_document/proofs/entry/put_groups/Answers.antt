use Rattle.std.proofs.Common.{rules, ◌∙◌, append_assoc}
use Rattle.rbac_document.proofs.Groups.{some_groups}
use Rattle.rbac_document.proofs.Pieces.{on_ok}
use Rattle.rbac_document.proofs.entry.put_groups.Goals as goal

pub returns : goal.returns
returns c =
    let whole = some_groups c.args.groups.now (λ e. search rules) in
    rw whole (on_ok c.extend_from_slice-2.result _ _ _ c.extend_from_slice-2.ensures.items
    (λ last. rw (c.in_ok-put_joined.ensures, c.in_ok-extend_from_slice.ensures.items) at last ∙ simp append_assoc))
