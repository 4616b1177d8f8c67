-- The four sets of a universe, from the lists that it is given.
use Rattle.std.specs.Prelude.{◌≡◌, ◌≤◌, ◌↔◌, [], IsTrue, All, Any, Contains, length}
use Rattle.rbac_terms.specs.Text.{text_cmp}
use Rattle.rbac_terms.specs.Targets.{What, Resource, Url, IsProper}
use Rattle.rbac_model.specs.Lists.{IsAscendingBy, IsOnceEach}
use Rattle.rbac_model.specs.Unions.{AreUnited}
use Rattle.rbac_model.specs.Universes.{UniverseView, Listed, target_texts, most_targets, most_words}
use Rattle.rbac_universe.specs.declared.lists.UniverseLists.{UniverseLists}
use Rattle.rbac_universe.specs.declared.fault.UniverseFault.{UniverseFault}
use Rattle.rbac_universe.specs.declared.fault.UniverseFault.TheVariants.{BadTarget, TooLarge}
use Rattle.rbac_universe.specs.declared.fault.UniverseFault.TheVariants.{NoMemory}

-- a request can ask for each listed resource and each listed URL, whatever the names (own)
pub record AreProper (lists : UniverseLists) : Type 0 where
  pub resources : All (λ r. IsProper (Resource r.group r.text [])) lists.resources
  pub urls : All (λ path. IsProper (Url path)) lists.urls

-- the targets (own): each listed resource with each name, and each URL
abbrev pub IsTarget : UniverseLists → What → Type 0
IsTarget lists (Resource group text name) =
    Any (λ r. (r.group ≡ group) × (r.text ≡ text)) lists.resources × Contains lists.names name
IsTarget lists (Url path) = Contains lists.urls path

-- a resource is namespaced if some entry of its group and text is; a URL isn't (own)
abbrev pub IsNamespaced : UniverseLists → What → Type 0
IsNamespaced lists (Resource group text name) =
    Any (λ r. (r.group ≡ group) × (r.text ≡ text) × IsTrue r.namespaced) lists.resources
IsNamespaced lists (Url path) = ⊥

-- each list as a set, in byte order: principals by key, with all groups given under this key;
-- targets by group, resource or URL, and name (own)
pub record AreSets (lists : UniverseLists) (u : UniverseView) : Type 0 where
  pub principals : AreUnited lists.principals u.principals
  pub namespaces : IsOnceEach text_cmp lists.namespaces u.namespaces
  pub verbs : IsOnceEach text_cmp lists.verbs u.verbs
  pub ordered : IsAscendingBy target_texts u.targets
  pub targets : (t : Listed) → Contains u.targets t
      ↔ (IsTarget lists t.0 × (IsTrue t.1 ↔ IsNamespaced lists t.0))

-- the limits of a universe, counted without repeats (own)
pub record IsWithinLimits (u : UniverseView) : Type 0 where
  pub principals : length u.principals ≤ most_words
  pub namespaces : length u.namespaces ≤ most_words
  pub verbs : length u.verbs ≤ most_words
  pub targets : length u.targets ≤ most_targets

-- the universe of these lists
pub record IsUniverseOf (lists : UniverseLists) (u : UniverseView) : Type 0 where
  pub proper : AreProper lists
  pub sets : AreSets lists u
  pub few : IsWithinLimits u

-- why the lists make no universe: a bad target first, then sets that are too large; memory may run
-- out at any time
abbrev pub HasUniverseFault : UniverseLists → UniverseFault → Type 0
HasUniverseFault lists BadTarget = ¬ AreProper lists
HasUniverseFault lists TooLarge = AreProper lists
    × ((u : UniverseView) × AreSets lists u × (¬ IsWithinLimits u))
HasUniverseFault lists NoMemory = Unit {0}
