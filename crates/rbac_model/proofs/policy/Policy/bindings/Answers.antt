use Rattle.std.proofs.Common.{ap, ◌∙◌}
use Rattle.rbac_model.specs.Policies.{PolicyView}
use Rattle.rbac_model.proofs.policy.Policy.bindings.Goals as goal

pub returns-clause-bindings : goal.returns-clause-bindings
returns-clause-bindings c = c.bindings.ensures.bindings ∙ ap (λ (p : PolicyView). p.held.bindings) c.self.view_is
