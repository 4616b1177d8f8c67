-- Labels, and the selectors of an aggregated role (Labels and Selectors; Using RBAC Authorization,
-- Aggregated ClusterRoles).
use Rattle.std.specs.Prelude.{ℕ, ◌||◌, ◌&&◌, Bool, not, List, [], ◌∷◌, codes, Option, Some, None}
use Rattle.std.specs.Prelude.{option_map, option_and_then, is_none, String, string_bytes}
use Rattle.std.specs.Prelude.{if◌then◌else◌}
use Rattle.std.specs.declared.alloc.Global.{Global}
use Rattle.std.specs.Str.{bytes_eq}
use Rattle.serde_json.specs.Data.{Data, Members, no_members, member}
use Rattle.serde_json.specs.Find.{as_str, as_object}
use Rattle.serde_json.specs.View.{view}
use Rattle.serde_json.specs.declared.value.Value.{Value}
use Rattle.json_fields.specs.Fields.{◌>>=◌, field, list_field, texts_field, text_at, is_object}
use Rattle.json_fields.specs.Fields.{is_empty, non_empty, text, texts, is_no_text, is_no_texts}
use Rattle.json_fields.specs.Fields.{any_of}
use Rattle.json_fields.specs.Lists.{all_at, cons_if}
use Rattle.rbac_manifest.specs.Lists.{is_bad_list}
use Rattle.rbac_terms.specs.Text.{Text}
use Rattle.rbac_terms.specs.declared.selecting.SelectOp.{SelectOp}
use Rattle.rbac_terms.specs.declared.selecting.SelectOp.TheVariants.{OneOf, NoneOf, Present, Absent}
use Rattle.rbac_terms.specs.declared.selecting.Requirement.{Requirement}
use Rattle.rbac_terms.specs.declared.selecting.Selector.{Selector}

-- the label of a member, if its value is a text
abbrev pub label_of : List ℕ → Data → Option (Text × Text)
label_of key d = option_map (λ t. (key, t)) (as_str d)

-- the labels of an object's members, if each value is a text
abbrev pub labels_of : Members → Option (List (Text × Text))
labels_of no_members = Some []
labels_of (member key d ms) = cons_if (label_of key d) (labels_of ms)

-- the labels of a map's entries, if each value is a text
abbrev pub entry_labels : List (String Global × Value) → Option (List (Text × Text))
entry_labels [] = Some []
entry_labels (e ∷ es) = cons_if (label_of (string_bytes e.0) (view e.1)) (entry_labels es)

-- the labels that a value gives; no labels if it is missing
abbrev pub labels_or_empty : Option Data → Option (List (Text × Text))
labels_or_empty None = Some []
labels_or_empty (Some d) = option_and_then labels_of (as_object d)

-- the labels in a field, which may be missing
unfoldable pub labels_at : List ℕ → Data → Option (List (Text × Text))
labels_at name d = labels_or_empty (field name d)

-- ---- selectors

-- the operator of this name, if it takes that many values
unfoldable pub operator_named : List ℕ → List (List ℕ) → Option SelectOp
operator_named name values =
    if bytes_eq name (codes "In") && not (is_empty values) then Some OneOf
    else if bytes_eq name (codes "NotIn") && not (is_empty values) then Some NoneOf
    else if bytes_eq name (codes "Exists") && is_empty values then Some Present
    else if bytes_eq name (codes "DoesNotExist") && is_empty values then Some Absent
    else None

-- a requirement has a key that isn't empty and an operator with its values
unfoldable pub requirement_from : Data → Option Requirement
requirement_from d =
    option_and_then non_empty (text_at (codes "key") d) >>= λ key.
    text_at (codes "operator") d >>= λ name.
    texts_field (codes "values") d >>= λ values.
    operator_named name values >>= λ op.
    Some (record { key = key; op = op; values = values })

-- In and NotIn take values, and Exists and DoesNotExist take none
abbrev pub is_operator : List ℕ → List (List ℕ) → Bool
is_operator name values =
    ((bytes_eq name (codes "In") || bytes_eq name (codes "NotIn")) && not (is_empty values))
    || ((bytes_eq name (codes "Exists") || bytes_eq name (codes "DoesNotExist")) && is_empty values)

-- a requirement is bad if it isn't an object, if its key isn't a text or is empty, if its operator
-- isn't a text, if its values aren't a list of texts, or if its operator is unknown or doesn't take
-- these values
unfoldable pub is_bad_requirement : Data → Bool
is_bad_requirement r = any_of (
    not (is_object r)
    ∷ is_empty (text (codes "key") r)
    ∷ is_no_text (codes "operator") r
    ∷ is_no_texts (codes "values") r
    ∷ not (is_operator (text (codes "operator") r) (texts (codes "values") r))
    ∷ [])

-- the requirement that an item gives, unless it is bad
unfoldable pub requirement_at : Data → Option Requirement
requirement_at d = if is_object d then requirement_from d else None

-- a selector asks for all of its labels and all of its requirements together; missing ones ask for
-- nothing
unfoldable pub selector_from : Data → Option Selector
selector_from d =
    labels_at (codes "matchLabels") d >>= λ labels.
    option_and_then (all_at requirement_at)
    (list_field (codes "matchExpressions") d) >>= λ requirements.
    Some (record { labels = labels; requirements = requirements })

-- a selector is bad if it isn't an object, if its labels aren't an object of texts, if its
-- requirements aren't a list, or if one of them is bad
unfoldable pub is_bad_selector : Data → Bool
is_bad_selector s = any_of (
    not (is_object s)
    ∷ is_none (labels_at (codes "matchLabels") s)
    ∷ is_bad_list is_bad_requirement (list_field (codes "matchExpressions") s)
    ∷ [])

-- the selector that an item gives, unless it is bad
unfoldable pub selector_at : Data → Option Selector
selector_at d = if is_object d then selector_from d else None

-- the selectors of an aggregation rule; if they are missing, there are none
unfoldable pub selectors_from : Data → Option (List Selector)
selectors_from d =
    if is_object d
    then option_and_then (all_at selector_at) (list_field (codes "clusterRoleSelectors") d)
    else None

-- an aggregation rule is bad if it isn't an object, if its selectors aren't a list, or if one of
-- them is bad
unfoldable pub is_bad_aggregation : Data → Bool
is_bad_aggregation a = not (is_object a)
    || is_bad_list is_bad_selector (list_field (codes "clusterRoleSelectors") a)

-- a role without an aggregation rule is plain
abbrev pub aggregation_of : Option Data → Option (Option (List Selector))
aggregation_of None = Some None
aggregation_of (Some d) = option_map Some (selectors_from d)

-- the selectors of an aggregated role; None if they are bad
unfoldable pub aggregation_at : Data → Option (Option (List Selector))
aggregation_at d = aggregation_of (field (codes "aggregationRule") d)
