use Rattle.std.proofs.Common.{take}
use Rattle.rbac_terms.specs.Selecting.{HasOneOf}
use Rattle.rbac_model.specs.Labelled.{AreWith}
use Rattle.rbac_model.proofs.labels.Labelled.having_one_of.Given as goal

abbrev pub invariant-loop-value : goal.invariant-loop-value
invariant-loop-value l = AreWith (λ own. HasOneOf own l.key (take l.value-index l.values)) l.self l.places
