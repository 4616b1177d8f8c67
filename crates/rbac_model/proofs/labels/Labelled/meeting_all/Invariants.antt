use Rattle.std.proofs.Common.{All, take}
use Rattle.rbac_terms.specs.Selecting.{Meets}
use Rattle.rbac_model.specs.Labelled.{AreWith}
use Rattle.rbac_model.proofs.labels.Labelled.meeting_all.Given as goal

abbrev pub invariant-loop-requirement : goal.invariant-loop-requirement
invariant-loop-requirement l = AreWith (λ own. All (λ requirement. Meets requirement own) (take l.requirement-index l.requirements)) l.self l.places
