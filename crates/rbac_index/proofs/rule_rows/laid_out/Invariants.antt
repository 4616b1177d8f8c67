use Rattle.std.proofs.Common.{map, take}
use Rattle.rbac_index.specs.Written.{AreWritten}
use Rattle.rbac_index.proofs.rule_rows.laid_out.Given as goal

abbrev pub invariant-loop-row : goal.invariant-loop-row
invariant-loop-row l = AreWritten (map (λ r. r.now) (take l.row l.rows)) l.rules.items
