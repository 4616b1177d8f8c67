use Rattle.std.proofs.Common.{append_assoc}
use Rattle.rbac_text.proofs.Fields.{scope_parts}
use Rattle.rbac_text.proofs.row.put_scope.Goals as goal

pub returns-in_ok-push-in-Some : goal.returns-in_ok-push-in-Some
returns-in_ok-push-in-Some c =
    let steps = rw (c.in_ok-put_text-in-Some.ensures, c.in_ok-put_kind-in-Some.ensures, c.as_bytes.ensures) at c.in_ok-push-in-Some.ensures.items in
    rw (c.in-Some.is, scope_parts c.in-Some.namespace.now) (simp append_assoc at steps)
