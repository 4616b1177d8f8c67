-- The rule that an object gives, and which rules are bad (Using RBAC Authorization, Role and
-- ClusterRole).
use Rattle.std.specs.Prelude.{◌||◌, ◌&&◌, Bool, not, codes, Option, Some, None, if◌then◌else◌}
use Rattle.serde_json.specs.Data.{Data}
use Rattle.json_fields.specs.Fields.{texts, is_no_texts, is_object, is_empty}
use Rattle.rbac_terms.specs.declared.matching.Rule.{Rule}

-- the rule that an object's fields give
abbrev pub rule_in : Data → Rule
rule_in d = record {
  verbs = texts (codes "verbs") d;
  groups = texts (codes "apiGroups") d;
  resources = texts (codes "resources") d;
  resource_names = texts (codes "resourceNames") d;
  urls = texts (codes "nonResourceURLs") d;
}

-- some field of a rule has another shape
abbrev pub has_bad_field : Data → Bool
has_bad_field d =
    is_no_texts (codes "verbs") d || is_no_texts (codes "apiGroups") d
    || is_no_texts (codes "resources") d
    || is_no_texts (codes "resourceNames") d || is_no_texts (codes "nonResourceURLs") d

-- a rule that has no verbs, is for nothing, is for URLs and has groups, resources or object names
-- too, or is for URLs in a Role
unfoldable pub is_bad_target : Bool → Rule → Bool
is_bad_target in_role r =
    is_empty r.verbs
    || (is_empty r.urls && (is_empty r.groups || is_empty r.resources))
    || (not (is_empty r.urls)
    && (not (is_empty r.groups) || not (is_empty r.resources) || not (is_empty r.resource_names)))
    || (not (is_empty r.urls) && in_role)

-- not an object, a field of another shape, or a bad target
abbrev pub is_bad_rule : Bool → Data → Bool
is_bad_rule in_role d = not (is_object d) || has_bad_field d || is_bad_target in_role (rule_in d)

-- the rule, unless it is bad
unfoldable pub rule_at : Bool → Data → Option Rule
rule_at in_role d = if is_bad_rule in_role d then None else Some (rule_in d)
