use Rattle.rbac_use.specs.Adding.{AddsLines, OfFirst}
use Rattle.rbac_use.specs.Rules.{IsNameLine, use_of}
use Rattle.rbac_use.proofs.rules.add_names.Given as goal

abbrev pub invariant-loop-name : goal.invariant-loop-name
invariant-loop-name l = AddsLines (OfFirst (IsNameLine (use_of l.used) l.verb l.group l.resource) l.name) l.initial.found.items l.found.items
