use Rattle.rbac_use.specs.Adding.{AddsLines, OfFirst}
use Rattle.rbac_use.specs.Rules.{IsResourceLine, use_of}
use Rattle.rbac_use.proofs.rules.add_of_group.Given as goal

abbrev pub invariant-loop-resource : goal.invariant-loop-resource
invariant-loop-resource l = AddsLines (OfFirst (IsResourceLine (use_of l.used) l.verb l.group) l.resource) l.initial.found.items l.found.items
