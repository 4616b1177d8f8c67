use Rattle.rbac_log.proofs.AccountParts.{account, other}
use Rattle.rbac_log.proofs.laws.accounts_are_impersonated_in_their_namespaces.Goals as goal

pub returns : goal.returns
returns c = record { account = account; other = other }
