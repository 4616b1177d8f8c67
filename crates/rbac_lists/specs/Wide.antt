-- Rules that by themselves name more resources than a universe may have targets (own).
use Rattle.std.specs.Prelude.{nat_lt, ℕ, ◌*◌, ◌<◌, Bool, not, ◌&&◌, List, filter, length, All}
use Rattle.std.specs.Prelude.{Contains, is_none}
use Rattle.std.specs.List.{list_any}
use Rattle.std.specs.Set.{distinct_count}
use Rattle.std.specs.Str.{bytes_eq}
use Rattle.rbac_terms.specs.Text.{Text}
use Rattle.rbac_terms.specs.declared.matching.Rule.{Rule}
use Rattle.rbac_model.specs.Lists.{IsAscendingBy}
use Rattle.rbac_model.specs.Policies.{Held}
use Rattle.rbac_model.specs.Universes.{most_targets}
use Rattle.rbac_catalogue.specs.Catalogue.{CatalogueView}
use Rattle.rbac_lists.specs.declared.given_lists.GivenLists.{GivenLists}
use Rattle.rbac_lists.specs.Derived.{source_rules, has_star, is_plain_resource}
use Rattle.rbac_lists.specs.Meant.{last_given}

-- how many different texts pass the test
abbrev pub different : (Text → Bool) → List Text → ℕ
different test words = distinct_count bytes_eq (filter test words)

-- a group that is written out
abbrev pub is_plain_group : Text → Bool
is_plain_group group = not (has_star group)

-- how many different resources a rule names: each of its groups, unless it contains a `*`, with
-- each of its resource words that name one resource
abbrev pub resource_count : Rule → ℕ
resource_count r = different is_plain_group r.groups * different is_plain_resource r.resources

-- the rule names more resources than a universe may have targets
abbrev pub is_wide : Rule → Bool
is_wide r = nat_lt most_targets (resource_count r)

-- the resources are derived from rules, and one of these is wide
abbrev pub has_wide_rule : Held → CatalogueView → List GivenLists → Bool
has_wide_rule h c documents =
    is_none (last_given (λ d. d.resources) documents) && not c.is_given
    && list_any is_wide (source_rules h)

-- elements of more different names than a universe may have targets are in the list
abbrev pub AreTooMany : {X : Type 0} → (X → List Text) → List X → Type 0
AreTooMany {X} name xs = (some : List X) × IsAscendingBy name some × All (Contains xs) some
    × (most_targets < length some)
