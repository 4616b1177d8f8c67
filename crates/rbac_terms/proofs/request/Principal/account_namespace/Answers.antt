use Rattle.std.proofs.Common.{◌≡◌, ◌↔◌, MatchOption, subst}
use Rattle.rbac_terms.specs.Text.{Text}
use Rattle.rbac_terms.specs.Principals.{Who, IsAccountIn}
use Rattle.rbac_terms.proofs.Accounts.{as_user}
use Rattle.rbac_terms.proofs.request.Principal.account_namespace.Goals as goal

pub returns-then-self : goal.returns-then-self
returns-then-self c =
    let P : Who → Type 0 = λ who. MatchOption c.account_namespace.result ((namespace : Text) → ¬ IsAccountIn who namespace) (λ own. (namespace : Text) → IsAccountIn who namespace ↔ (namespace ≡ own.now)) in
    subst P (as_user c.self.inside.is_user c.self.inside.key c.self.inside.given c.args.self.now c.name.result.now c.self.view_is c.if-self.true c.name.ensures.name) c.account_namespace.ensures
