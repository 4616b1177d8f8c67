use Rattle.std.proofs.Common.{List, ap, ◌∙◌, ◌++◌}
use Rattle.rbac_model.specs.declared.objects.Object.{Object}
use Rattle.rbac_manifest.proofs.Unnamed.{changed_by}
use Rattle.rbac_manifest.proofs.change.changed.Goals as goal

pub returns : goal.returns
returns c =
    let over : List Object = c.args.over.items in
    c.in_ok-append.ensures.items
    ∙ ap (λ (kept : List Object). kept ++ over) c.in_ok-push_unnamed.ensures
    ∙ rw (c.new-changed.ensures.items, c.as_slice.ensures.value)
    (changed_by c.args.objects.now c.args.without.now over c.in_ok-names.names.items c.in_ok-names.ensures.same)
