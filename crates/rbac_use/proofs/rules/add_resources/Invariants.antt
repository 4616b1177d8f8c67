use Rattle.rbac_use.specs.Adding.{AddsLines, OfFirst}
use Rattle.rbac_use.specs.Rules.{IsGroupLine, use_of}
use Rattle.rbac_use.proofs.rules.add_resources.Given as goal

abbrev pub invariant-loop-group : goal.invariant-loop-group
invariant-loop-group l = AddsLines (OfFirst (IsGroupLine (use_of l.used) l.verb) l.group) l.initial.found.items l.found.items
