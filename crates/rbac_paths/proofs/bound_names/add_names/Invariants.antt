use Rattle.std.proofs.Common.{take}
use Rattle.rbac_paths.specs.BoundNames.{BindsNamed}
use Rattle.rbac_paths.proofs.WordsAdded.{AddsOf}
use Rattle.rbac_paths.proofs.bound_names.add_names.Given as goal

abbrev pub invariant-loop-rule : goal.invariant-loop-rule
invariant-loop-rule l = AddsOf (λ rule name. BindsNamed rule name) (take l.rule-index l.rules) l.initial.names.items l.names.items
