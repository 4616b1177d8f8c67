use Rattle.std.proofs.Common.{ap, ◌∙◌}
use Rattle.rbac_model.specs.Policies.{Held}
use Rattle.rbac_model.proofs.objects.Objects.bindings.Goals as goal

pub returns-clause-bindings : goal.returns-clause-bindings
returns-clause-bindings c = c.as_slice.ensures.value ∙ ap (λ (h : Held). h.bindings) c.self.view_is
