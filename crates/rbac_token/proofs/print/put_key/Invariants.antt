use Rattle.std.proofs.Common.{◌≡◌, ◌++◌, take}
use Rattle.std.specs.List.{flat_map}
use Rattle.rbac_terms.specs.Keys.{texts}
use Rattle.rbac_token.specs.Token.{after_tab}
use Rattle.rbac_token.proofs.print.put_key.Given as goal

abbrev pub invariant-loop-place : goal.invariant-loop-place
invariant-loop-place l = l.printed.items ≡ l.fn.printed.items ++ flat_map after_tab (take l.place (texts l.key))
