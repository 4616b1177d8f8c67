use Rattle.std.proofs.Common.{take}
use Rattle.rbac_subjects.proofs.PrincipalLemmas.{AreListed}
use Rattle.rbac_subjects.proofs.subject_principals.listed_principals.Given as goal

abbrev pub invariant-loop-entry : goal.invariant-loop-entry
invariant-loop-entry l = AreListed (take l.entry-index l.entries) l.found.items
