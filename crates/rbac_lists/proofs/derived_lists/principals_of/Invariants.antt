use Rattle.std.proofs.Common.{◌≡◌, take}
use Rattle.std.specs.List.{flat_map, filter_map}
use Rattle.rbac_terms.specs.Granting.{subject_principal}
use Rattle.rbac_lists.proofs.derived_lists.principals_of.Given as goal

abbrev pub invariant-loop-binding : goal.invariant-loop-binding
invariant-loop-binding l = l.principals.items ≡ flat_map (λ b. filter_map (subject_principal b.namespace) b.subjects) (take l.binding-index l.objects.bindings)
