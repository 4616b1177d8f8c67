use Rattle.std.proofs.Common.{IsTrue, ◌↔◌, subst}
use Rattle.rbac_terms.specs.Principals.{Who, IsInGroup}
use Rattle.rbac_terms.proofs.Accounts.{as_user}
use Rattle.rbac_terms.proofs.request.Principal.in_group.Goals as goal

pub returns-then-self : goal.returns-then-self
returns-then-self c =
    let P : Who → Type 0 = λ who. IsTrue c.is_user_group.result ↔ IsInGroup who c.as_bytes.result.now in
    rw (← c.as_bytes.ensures) (subst P (as_user c.self.inside.is_user c.self.inside.key c.self.inside.given c.args.self.now c.name.result.now c.self.view_is c.if-self.true c.name.ensures.name) c.is_user_group.ensures)
