use Rattle.std.proofs.Common.{take}
use Rattle.std.specs.Option.{option_copied}
use Rattle.rbac_diff.specs.Finding.{Finds}
use Rattle.rbac_diff.proofs.Bindings.{IsBySubjects}
use Rattle.rbac_diff.proofs.finding.add_of_binding.Given as goal

abbrev pub invariant-loop-subject : goal.invariant-loop-subject
invariant-loop-subject l = Finds (IsBySubjects l.asked l.after l.place (option_copied l.namespace) l.origin (take l.subject-index l.subject-items)) l.origin l.initial.findings l.findings
