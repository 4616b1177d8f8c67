use Rattle.rbac_index.proofs.WrittenLemmas.{HasMore}
use Rattle.rbac_index.proofs.rule_rows.push_row.Given as goal

abbrev pub invariant-loop-place : goal.invariant-loop-place
invariant-loop-place l = HasMore l.fn.rules.items l.rules.items l.row l.of_row l.place
