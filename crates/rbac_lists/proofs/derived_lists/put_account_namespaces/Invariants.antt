use Rattle.std.proofs.Common.{◌≡◌, ◌++◌, take, map}
use Rattle.rbac_lists.proofs.derived_lists.put_account_namespaces.Given as goal

abbrev pub invariant-loop-account : goal.invariant-loop-account
invariant-loop-account l = l.list.items ≡ l.initial.list.items ++ map (λ a. a.namespace) (take l.account-index l.accounts)
