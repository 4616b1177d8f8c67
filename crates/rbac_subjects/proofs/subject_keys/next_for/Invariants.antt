use Rattle.std.proofs.Common.{Contains}
use Rattle.rbac_subjects.specs.Keyed.{AnswersNext, IsLiveUnderAny}
use Rattle.rbac_subjects.proofs.subject_keys.next_for.Given as goal

abbrev pub invariant-loop-key : goal.invariant-loop-key
invariant-loop-key l = AnswersNext (IsLiveUnderAny l.entries l.live (Contains l.yielded)) l.from l.next
