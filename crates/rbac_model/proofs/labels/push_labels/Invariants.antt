use Rattle.std.proofs.Common.{take}
use Rattle.rbac_model.specs.Labelled.{Adds}
use Rattle.rbac_model.proofs.labels.push_labels.Given as goal

abbrev pub invariant-loop-label : goal.invariant-loop-label
invariant-loop-label l = Adds l.initial.entries.items l.entries.items (take l.label-index l.labels) l.place
