use Rattle.std.proofs.Common.{◌≡◌, length, take}
use Rattle.rbac_subjects.proofs.PrincipalLemmas.{AreMarked}
use Rattle.rbac_subjects.proofs.subject_principals.marks_of_listed.Given as goal

abbrev pub invariant-loop-entry : goal.invariant-loop-entry
invariant-loop-entry l = record {
  len : length l.marks.items ≡ l.count;
  marks : AreMarked (take l.entry-index l.entries) l.marks.items;
}
