-- What a universe is, and what is known about it: four ascending lists within the limits.
use Rattle.std.specs.Prelude.{List, Bool}
use Rattle.std.specs.List.{zip}
use Rattle.rbac_terms.specs.Text.{Text}
use Rattle.rbac_terms.specs.Targets.{What}
use Rattle.rbac_terms.specs.Principals.{Who}
use Rattle.rbac_model.specs.Universes.{UniverseView, IsUniverse}
use Rattle.rbac_universe.specs.Sets.{IsWithinLimits}

-- a universe from its lists: the targets are paired with their flags, place by place
abbrev pub view_of : List Who → List Text → List Text → List What → List Bool → UniverseView
view_of principals namespaces verbs targets namespaced = record {
  principals = principals;
  namespaces = namespaces;
  verbs = verbs;
  targets = zip targets namespaced;
}

-- the lists of a universe are in order, and within the limits
pub record IsMade (u : UniverseView) : Type 0 where
  pub ordered : IsUniverse u
  pub few : IsWithinLimits u
