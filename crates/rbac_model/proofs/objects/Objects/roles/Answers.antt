use Rattle.std.proofs.Common.{ap, ◌∙◌}
use Rattle.rbac_model.specs.Policies.{Held}
use Rattle.rbac_model.proofs.objects.Objects.roles.Goals as goal

pub returns-clause-roles : goal.returns-clause-roles
returns-clause-roles c = c.as_slice.ensures.value ∙ ap (λ (h : Held). h.roles) c.self.view_is
