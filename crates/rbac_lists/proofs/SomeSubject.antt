-- the principals of subjects are whoever a subject of a binding stands for
use Rattle.std.proofs.Common.{List, Contains, ◌↔◌}
use Rattle.std.specs.List.{filter_map}
use Rattle.rbac_terms.specs.Principals.{Who}
use Rattle.rbac_terms.specs.Granting.{subject_principal}
use Rattle.rbac_terms.specs.declared.granting.Binding.{Binding}
use Rattle.rbac_model.specs.Policies.{Held, HasSubject}
use Rattle.rbac_model.proofs.SubjectPrincipals.{pickable, picked}
use Rattle.rbac_universe.proofs.Flattened.{contains_flat, flat_contains}
use Rattle.rbac_lists.specs.Derived.{subject_principals}

abbrev of_binding : Binding → List Who
of_binding b = filter_map (subject_principal b.namespace) b.subjects

pub some_subject : (h : Held) (who : Who) → Contains (subject_principals h) who ↔ HasSubject h who
some_subject h who = (
  λ c. (let w = contains_flat of_binding h.bindings who c in (w.1.0, w.0, w.1.1, w.1.2, picked (subject_principal w.0.namespace) who w.0.subjects w.2)),
  λ s. flat_contains of_binding h.bindings s.1 who (s.0, s.2, s.3) (pickable (subject_principal s.1.namespace) who s.1.subjects s.4),
)
