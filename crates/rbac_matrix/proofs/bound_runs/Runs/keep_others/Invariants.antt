use Rattle.std.proofs.Common.{◌≡◌, ◌-◌, length}
use Rattle.std.specs.Prelude.{false}
use Rattle.rbac_matrix.specs.Shown.{line_of}
use Rattle.rbac_matrix.specs.Cursors.{AreRuns, end_after}
use Rattle.rbac_matrix.proofs.bound_runs.Runs.keep_others.Given as goal

abbrev pub invariant-loop-subjects : goal.invariant-loop-subjects
invariant-loop-subjects l = record {
  runs : AreRuns l.index (line_of l.line) l.self;
  from : l.from ≡ end_after 0 l.self.kept.items;
  others : l.self.are_all ≡ false;
  same : l.self ≡ record l.fn.self { kept = l.self.kept };
}

abbrev pub decreases-loop-subjects : goal.decreases-loop-subjects
decreases-loop-subjects l = 1024 - length l.self.kept.items
