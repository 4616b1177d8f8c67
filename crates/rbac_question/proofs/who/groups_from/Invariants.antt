use Rattle.std.proofs.Common.{◌≡◌, map}
use Rattle.std.specs.Prelude.{filter}
use Rattle.rbac_question.specs.Lines.{is_not_empty}
use Rattle.rbac_question.proofs.who.groups_from.Given as goal

abbrev pub invariant-loop-part : goal.invariant-loop-part
invariant-loop-part l = l.groups.items ≡ filter is_not_empty (map (λ part. part.now) l.yielded)
