-- The sets of a universe, before its targets are made from stems and names.
use Rattle.std.specs.Prelude.{All}
use Rattle.std.specs.List.{flat_map}
use Rattle.rbac_model.specs.Universes.{UniverseView}
use Rattle.rbac_universe.specs.declared.lists.UniverseLists.{UniverseLists}
use Rattle.rbac_universe.specs.declared.sets.UniverseSets.{UniverseSets}
use Rattle.rbac_universe.specs.Sets.{AreSets}
use Rattle.rbac_universe.specs.Stems.{IsStem, listed_of}

-- the universe that the sets make
abbrev pub universe_of : UniverseSets → UniverseView
universe_of g = record {
  principals = g.principals.items;
  namespaces = g.namespaces.items;
  verbs = g.verbs.items;
  targets = flat_map (listed_of g.names.items) g.stems.items;
}

-- the sets of these lists, with stems of which targets can be made
pub record AreUniverseSets (lists : UniverseLists) (g : UniverseSets) : Type 0 where
  pub sets : AreSets lists (universe_of g)
  pub stems : All IsStem g.stems.items
