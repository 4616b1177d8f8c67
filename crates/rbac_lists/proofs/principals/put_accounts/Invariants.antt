use Rattle.std.proofs.Common.{◌≡◌, ◌++◌, take, map}
use Rattle.rbac_terms.specs.Principals.{account_principal}
use Rattle.rbac_lists.proofs.principals.put_accounts.Given as goal

abbrev pub invariant-loop-account : goal.invariant-loop-account
invariant-loop-account l = l.list.items ≡ l.initial.list.items ++ map (λ a. account_principal a.namespace a.name) (take l.account-index l.accounts)
