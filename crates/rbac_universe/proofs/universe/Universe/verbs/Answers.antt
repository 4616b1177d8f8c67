use Rattle.std.proofs.Common.{ap, ◌∙◌}
use Rattle.rbac_model.specs.Universes.{UniverseView}
use Rattle.rbac_universe.proofs.universe.Universe.verbs.Goals as goal

pub returns-clause-verbs : goal.returns-clause-verbs
returns-clause-verbs c = c.as_slice.ensures.value ∙ ap (λ (u : UniverseView). u.verbs) c.self.view_is
