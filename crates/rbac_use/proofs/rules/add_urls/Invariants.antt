use Rattle.rbac_use.specs.Adding.{AddsLines, OfFirst}
use Rattle.rbac_use.specs.Rules.{IsUrlLine, use_of}
use Rattle.rbac_use.proofs.rules.add_urls.Given as goal

abbrev pub invariant-loop-url : goal.invariant-loop-url
invariant-loop-url l = AddsLines (OfFirst (IsUrlLine (use_of l.used) l.verb) l.url) l.initial.found.items l.found.items
