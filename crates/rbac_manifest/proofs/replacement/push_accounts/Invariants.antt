use Rattle.std.specs.Prelude.{◌≡◌, ◌++◌, map, take}
use Rattle.rbac_manifest.specs.Names.{account_name}
use Rattle.rbac_manifest.proofs.replacement.push_accounts.Given as goal

abbrev pub invariant-loop-account : goal.invariant-loop-account
invariant-loop-account l = l.names.items ≡ l.initial.names.items ++ map account_name (take l.account-index l.accounts)
