use Rattle.std.proofs.Common.{Any, take}
use Rattle.rbac_terms.specs.Selecting.{Selects}
use Rattle.rbac_model.specs.Labelled.{AreWith}
use Rattle.rbac_model.proofs.labels.Labelled.gathered.Given as goal

abbrev pub invariant-loop-selector : goal.invariant-loop-selector
invariant-loop-selector l = AreWith (λ labels. Any (λ selector. Selects selector labels) (take l.selector-index l.selectors)) l.self l.places
