use Rattle.std.proofs.Common.{◌≡◌, ◌↔◌, MatchOption, subst}
use Rattle.rbac_terms.specs.Text.{Text}
use Rattle.rbac_terms.specs.Principals.{Who, SignsInAs}
use Rattle.rbac_terms.proofs.Accounts.{as_user}
use Rattle.rbac_terms.proofs.request.Principal.sign_in_group.Goals as goal

pub returns-then-self : goal.returns-then-self
returns-then-self c =
    let P : Who → Type 0 = λ who. MatchOption c.sign_in_group.result ((group : Text) → ¬ SignsInAs who group) (λ own. (group : Text) → SignsInAs who group ↔ (group ≡ own.now)) in
    subst P (as_user c.self.inside.is_user c.self.inside.key c.self.inside.given c.args.self.now c.name.result.now c.self.view_is c.if-self.true c.name.ensures.name) c.sign_in_group.ensures
