use Rattle.std.proofs.Common.{ap, ◌∙◌}
use Rattle.rbac_model.specs.Universes.{UniverseView}
use Rattle.rbac_universe.proofs.universe.Universe.namespaces.Goals as goal

pub returns-clause-namespaces : goal.returns-clause-namespaces
returns-clause-namespaces c = c.as_slice.ensures.value ∙ ap (λ (u : UniverseView). u.namespaces) c.self.view_is
