-- Which documents were replaced by later ones with the same kind, namespace and name.
use Rattle.std.specs.Prelude.{◌≡◌, ◌↔◌, ◌+◌, ◌<◌, List, [], ◌∷◌, Contains, length}
use Rattle.rbac_terms.specs.Text.{Text}
use Rattle.rbac_model.specs.Lists.{IsCount, IsAscendingBy}
use Rattle.rbac_manifest.specs.declared.replacement.Replaced.{Replaced}

-- the name of a replaced object: its kind, namespace and name
abbrev pub replaced_name : Replaced → List Text
replaced_name r = r.kind ∷ r.namespace ∷ r.name ∷ []

-- exactly the names that occur more than once, in order, each with one less than the number of
-- times it occurs (own)
pub record AreReplaced (names : List (List Text)) (rs : List Replaced) : Type 0 where
  pub ordered : IsAscendingBy replaced_name rs
  pub exact : (r : Replaced) → Contains rs r
      ↔ ((0 < r.earlier) × IsCount (λ n. n ≡ replaced_name r) names (r.earlier + 1))

-- what the documents with one name give: the object of that name, with how many documents come
-- before the last; nothing if there is only one document
abbrev pub replaced_by : List (List Text) → List Replaced
replaced_by ((kind ∷ namespace ∷ name ∷ []) ∷ other ∷ others) = record {
  kind = kind;
  namespace = namespace;
  name = name;
  earlier = length others + 1;
} ∷ []
replaced_by _ = []
