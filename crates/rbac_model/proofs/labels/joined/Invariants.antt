use Rattle.std.proofs.Common.{◌++◌, length, drop}
use Rattle.rbac_model.specs.Labelled.{AreInLabelOrder, SayTheSame}
use Rattle.rbac_model.proofs.labels.joined.Given as goal

abbrev pub invariant-loop-entry : goal.invariant-loop-entry
invariant-loop-entry l = record {
  in_order : AreInLabelOrder (l.joined.items ++ drop (length l.yielded) l.fn.entries.items);
  same : SayTheSame l.yielded l.joined.items;
}
