use Rattle.std.proofs.Common.{All, take}
use Rattle.rbac_terms.specs.Selecting.{HasLabel}
use Rattle.rbac_model.specs.Labelled.{AreWith}
use Rattle.rbac_model.proofs.labels.Labelled.having_all.Given as goal

abbrev pub invariant-loop-label : goal.invariant-loop-label
invariant-loop-label l = AreWith (λ own. All (λ label. HasLabel own label.0 label.1) (take l.label-index l.labels)) l.self l.places
