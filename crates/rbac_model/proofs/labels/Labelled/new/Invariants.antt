use Rattle.rbac_model.proofs.LabelAdding.{SaysUpTo}
use Rattle.rbac_model.proofs.labels.Labelled.new.Given as goal

abbrev pub invariant-loop-place : goal.invariant-loop-place
invariant-loop-place l = SaysUpTo l.roles l.entries.items l.place
