use Rattle.std.proofs.Common.{ap, ◌∙◌}
use Rattle.rbac_model.specs.Universes.{UniverseView}
use Rattle.rbac_universe.proofs.universe.Universe.principals.Goals as goal

pub returns-clause-principals : goal.returns-clause-principals
returns-clause-principals c = c.as_slice.ensures.value ∙ ap (λ (u : UniverseView). u.principals) c.self.view_is
