use Rattle.std.proofs.Common.{refl}
use Rattle.rbac_terms.proofs.Accounts.{IsAccountGroup-iff}
use Rattle.rbac_terms.proofs.request.is_account_group.Goals as goal

pub returns-in-Some : goal.returns-in-Some
returns-in-Some c = IsAccountGroup-iff c.args.user.now c.in-Some.namespace.now c.args.group.now _ ((c.in-Some.ensures c.in-Some.namespace.now).1 refl) c.is_group_of_accounts.ensures

pub returns-in-None : goal.returns-in-None
returns-in-None c = (λ h. cc, λ b. absurd (c.in-None.ensures b.0 b.1))
