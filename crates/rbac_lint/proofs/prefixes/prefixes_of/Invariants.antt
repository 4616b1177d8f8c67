use Rattle.std.proofs.Common.{◌≡◌, ◌++◌, map}
use Rattle.rbac_lint.specs.Prefixes.{entry_of, ArePrefixes}
use Rattle.rbac_lint.proofs.prefixes.prefixes_of.Given as goal

abbrev pub invariant-loop-text : goal.invariant-loop-text
invariant-loop-text l = (map entry_of l.prefixes.items ++ l.text-iterator ≡ l.fn.lists.entries) × ArePrefixes l.prefixes.items
