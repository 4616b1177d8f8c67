use Rattle.std.proofs.Common.{◌≡◌, ◌++◌, take}
use Rattle.std.specs.List.{filter_map}
use Rattle.rbac_terms.specs.Granting.{subject_principal}
use Rattle.rbac_terms.proofs.granting.put_principals.Given as goal

abbrev pub invariant-loop-subject : goal.invariant-loop-subject
invariant-loop-subject l = l.list.items ≡ l.initial.list.items ++ filter_map (subject_principal l.binding.namespace) (take l.subject-index l.binding.subjects)
