use Rattle.std.proofs.Common.{◌∷◌, ◌∙◌}
use Rattle.rbac_terms.specs.Text.{colon}
use Rattle.rbac_terms.proofs.Accounts.{account_user-iff, account_rest, user_is}
use Rattle.rbac_terms.proofs.request.is_account_user.Goals as goal

pub returns : goal.returns
returns c = account_user-iff c.args.user.now c.in-Some.parts.now c.in-Some-after_prefix.rest.now c.args.namespace.now c.args.name.now _ c.in-Some.ensures c.in-Some-after_prefix.ensures c.is_joined.ensures

pub returns-in_default : goal.returns-in_default
returns-in_default c = (λ h. cc, λ e. absurd (c.in_default.ensures (_, e ∙ user_is c.args.namespace.now c.args.name.now)))

pub returns-in_default-after_prefix : goal.returns-in_default-after_prefix
returns-in_default-after_prefix c = (λ h. cc, λ e. absurd (c.in_default-after_prefix.ensures (colon ∷ c.args.name.now, account_rest _ _ c.args.namespace.now c.args.name.now c.in-Some.ensures e)))
