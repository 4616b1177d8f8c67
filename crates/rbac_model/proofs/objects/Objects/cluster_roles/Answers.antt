use Rattle.std.proofs.Common.{ap, ◌∙◌}
use Rattle.rbac_model.specs.Policies.{Held}
use Rattle.rbac_model.proofs.objects.Objects.cluster_roles.Goals as goal

pub returns-clause-cluster_roles : goal.returns-clause-cluster_roles
returns-clause-cluster_roles c = c.as_slice.ensures.value ∙ ap (λ (h : Held). h.cluster_roles) c.self.view_is
