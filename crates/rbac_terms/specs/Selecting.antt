use Rattle.std.specs.Prelude.{◌≡◌, List, All, Any, Contains}
use Rattle.rbac_terms.specs.Text.{Text}
use Rattle.rbac_terms.specs.declared.selecting.SelectOp.{SelectOp}
use Rattle.rbac_terms.specs.declared.selecting.SelectOp.TheVariants.{OneOf, NoneOf, Present, Absent}
use Rattle.rbac_terms.specs.declared.selecting.Requirement.{Requirement}
use Rattle.rbac_terms.specs.declared.selecting.Selector.{Selector}

-- labels as pairs of a key and a value (Labels and Selectors)
abbrev pub LabelTexts : Type 0
LabelTexts = List (Text × Text)

-- some label has the key and the value (Labels and Selectors, equality-based requirements)
unfoldable pub HasLabel : LabelTexts → Text → Text → Type 0
HasLabel labels key value = Contains labels (key, value)

-- some label has the key (Labels and Selectors, set-based requirements)
abbrev pub HasLabelKey : LabelTexts → Text → Type 0
HasLabelKey labels key = Any (λ label. label.0 ≡ key) labels

-- some label has the key and one of the values (Labels and Selectors, set-based requirements)
abbrev pub HasOneOf : LabelTexts → Text → List Text → Type 0
HasOneOf labels key values = Any (λ label. (label.0 ≡ key) × Contains values label.1) labels

-- labels meet an operator: `In` if one has the key and a listed value, `NotIn` if none has both,
-- `Exists` if one has the key, `DoesNotExist` if none has it (Labels and Selectors, set-based
-- requirements)
abbrev pub MeetsOp : SelectOp → Text → List Text → LabelTexts → Type 0
MeetsOp OneOf key values labels = HasOneOf labels key values
MeetsOp NoneOf key values labels = ¬ HasOneOf labels key values
MeetsOp Present key values labels = HasLabelKey labels key
MeetsOp Absent key values labels = ¬ HasLabelKey labels key

-- labels meet a requirement: they meet its operator with its key and values (Labels and Selectors,
-- set-based requirements)
abbrev pub Meets : Requirement → LabelTexts → Type 0
Meets r labels = MeetsOp r.op r.key r.values labels

-- a selector selects labels that contain each of its labels and meet each of its requirements; the
-- empty one selects all (Labels and Selectors)
abbrev pub Selects : Selector → LabelTexts → Type 0
Selects s labels = All (λ label. HasLabel labels label.0 label.1) s.labels
    × All (λ r. Meets r labels) s.requirements
