use Rattle.rbac_use.specs.Adding.{AddsLines, OfFirst}
use Rattle.rbac_use.specs.Rules.{IsVerbLine, use_of}
use Rattle.rbac_use.proofs.rules.add_permissions.Given as goal

abbrev pub invariant-loop-verb : goal.invariant-loop-verb
invariant-loop-verb l = AddsLines (OfFirst (IsVerbLine (use_of l.used)) l.verb) l.initial.found.items l.found.items
