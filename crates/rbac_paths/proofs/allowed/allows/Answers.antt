use Rattle.std.proofs.Common.{◌↔◌, IfOk, IsTrue, subst, sym}
use Rattle.rbac_model.specs.Policies.{PolicyView}
use Rattle.rbac_paths.specs.Access.{AllowsAccess, access_of}
use Rattle.rbac_paths.specs.Allowed.{MarkAllowing}
use Rattle.rbac_paths.specs.Nodes.{Somebody}
use Rattle.rbac_paths.proofs.allowed.allows.Goals as goal

pub returns-in-Somebody : goal.returns-in-Somebody
returns-in-Somebody c =
    let asked = access_of c.args.access in
    let marked = subst (λ (p : PolicyView). MarkAllowing p asked c.args.marks.now) (sym c.requires.index) c.requires.marks in
    rw c.in-Somebody.is
    (subst (λ (p : PolicyView). IfOk c.is_allowed.result (λ does. IsTrue does ↔ AllowsAccess p asked (Somebody c.in-Somebody.who.now))) c.requires.index (c.is_allowed.ensures asked marked))
