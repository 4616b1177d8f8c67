use Rattle.std.specs.Option.{option_copied}
use Rattle.rbac_diff.specs.Finding.{SearchFinds}
use Rattle.rbac_diff.proofs.Grants.{IsByNumbers}
use Rattle.rbac_diff.proofs.finding.add_of_grants.Given as goal

abbrev pub invariant-loop-no : goal.invariant-loop-no
invariant-loop-no l = SearchFinds l.search (IsByNumbers l.after (option_copied l.search.namespace) l.from l.no) l.initial.findings l.findings
