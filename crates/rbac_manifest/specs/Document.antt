-- The table of a document's refusals, and what a document gives.
use Rattle.std.specs.Prelude.{ℕ, ◌||◌, Bool, true, false, not, List, [], ◌∷◌, codes, Option, Some}
use Rattle.std.specs.Prelude.{None, option_map, option_and_then, unwrap_or, is_none, if◌then◌else◌}
use Rattle.serde_json.specs.Data.{Data}
use Rattle.rbac_model.specs.declared.objects.Object.TheVariants as object
use Rattle.rbac_terms.specs.declared.matching.Rule.{Rule}
use Rattle.rbac_terms.specs.declared.selecting.Selector.{Selector}
use Rattle.rbac_terms.specs.declared.granting.RoleRef.{RoleRef}
use Rattle.rbac_terms.specs.declared.granting.Role.{Role}
use Rattle.rbac_terms.specs.declared.granting.ClusterRole.{ClusterRole}
use Rattle.rbac_terms.specs.declared.granting.Binding.{Binding}
use Rattle.rbac_terms.specs.declared.granting.Subject.{Subject}
use Rattle.rbac_lists.specs.declared.given_lists.Account.{Account}
use Rattle.json_fields.specs.Fields.{field, list_field, is_object, is_empty, missing_or}
use Rattle.json_fields.specs.Fields.{given_and}
use Rattle.rbac_manifest.specs.Lists.{first_bad}
use Rattle.rbac_manifest.specs.Kinds.{kind_at, version_at, kind_of}
use Rattle.rbac_manifest.specs.Role.{rules_in}
use Rattle.rbac_manifest.specs.Rule.{is_bad_rule}
use Rattle.rbac_manifest.specs.Metadata.{is_bad_metadata, metadata_at}
use Rattle.rbac_manifest.specs.Label.{is_bad_aggregation, aggregation_at}
use Rattle.rbac_manifest.specs.Binding.{is_bad_role_ref, is_bad_subject, role_ref_at, subjects_in}
use Rattle.rbac_manifest.specs.ApiList.{is_bad_api_list, entries_at}
use Rattle.rbac_manifest.specs.UniverseDocument.{is_bad_universe, given_lists_at}
use Rattle.rbac_manifest.specs.Group.{is_bad_group, membership_at}
use Rattle.rbac_manifest.specs.declared.metadata.Metadata.{Metadata}
use Rattle.rbac_manifest.specs.declared.content.Content.{Content}
use Rattle.rbac_manifest.specs.declared.content.Content.TheVariants as contents
use Rattle.rbac_manifest.specs.declared.kind.Kind.{Kind}
use Rattle.rbac_manifest.specs.declared.kind.Kind.TheVariants as kinds
use Rattle.rbac_manifest.specs.declared.kind.Implied.{Implied}
use Rattle.rbac_manifest.specs.declared.fault.Cause.{Cause}
use Rattle.rbac_manifest.specs.declared.fault.Cause.TheVariants.{NotAnObject, BadVersion}
use Rattle.rbac_manifest.specs.declared.fault.Cause.TheVariants.{BadMetadata, BadRule, BadRoleRef}
use Rattle.rbac_manifest.specs.declared.fault.Cause.TheVariants.{BadSubject, BadSelector}
use Rattle.rbac_manifest.specs.declared.fault.Cause.TheVariants.{BadCatalogue, BadUniverse}
use Rattle.rbac_manifest.specs.declared.fault.Cause.TheVariants.{BadGroup}

-- ---- the refusals by number: each is a condition and its cause

-- a condition and its cause
abbrev pub when : Bool → Cause → Option Cause
when holds cause = if holds then Some cause else None

-- the first row whose condition holds
abbrev pub first_of : List (Option Cause) → Option Cause
first_of [] = None
first_of (None ∷ rows) = first_of rows
first_of (Some cause ∷ rows) = Some cause

-- M2: the document isn't an object, or its kind is missing and none is implied, or its kind isn't a
-- text
unfoldable pub not_an_object : Implied → Data → Option Cause
not_an_object implied d = when (not (is_object d) || is_none (kind_at implied d)) NotAnObject

-- M3: the version is missing although the kind needs one and none is implied, or it isn't a text,
-- or it isn't read
unfoldable pub bad_version : Implied → Data → Option Cause
bad_version implied d =
    when (is_none (version_at implied (unwrap_or (kind_at implied d) []) d)) BadVersion

-- M4: the metadata is missing or bad
abbrev pub bad_metadata : Data → Option Cause
bad_metadata d = when (missing_or is_bad_metadata (field (codes "metadata") d)) BadMetadata

-- M5: the first bad rule, with its place; only a rule of a ClusterRole may be for URLs
unfoldable pub bad_rules : Bool → Data → Option Cause
bad_rules in_role d =
    option_map BadRule (first_bad (is_bad_rule in_role) (list_field (codes "rules") d))

-- M6: the reference is missing or bad; only a binding in a namespace may name a Role
abbrev pub bad_role_ref : Bool → Data → Option Cause
bad_role_ref in_namespace d =
    when (missing_or (is_bad_role_ref in_namespace) (field (codes "roleRef") d)) BadRoleRef

-- M7: the first bad subject, with its place
unfoldable pub bad_subjects : Data → Option Cause
bad_subjects d = option_map BadSubject (first_bad is_bad_subject (list_field (codes "subjects") d))

-- M8: the aggregation rule is given and bad
abbrev pub bad_selector : Data → Option Cause
bad_selector d = when (given_and is_bad_aggregation (field (codes "aggregationRule") d)) BadSelector

-- M9: the API resource list is bad
abbrev pub bad_catalogue : Data → Option Cause
bad_catalogue d = when (is_bad_api_list d) BadCatalogue

-- M10: the Universe document is bad
abbrev pub bad_universe : Data → Option Cause
bad_universe d = when (is_bad_universe d) BadUniverse

-- M13: the members of a group are bad
abbrev pub bad_group : Data → Option Cause
bad_group d = when (is_bad_group d) BadGroup

-- what is wrong with the kind or version of a document
unfoldable pub bad_header : Implied → Data → Option Cause
bad_header implied d = first_of (not_an_object implied d ∷ bad_version implied d ∷ [])

-- what may be wrong with a binding, in a namespace or not
abbrev pub binding_refusals : Bool → Data → List (Option Cause)
binding_refusals in_namespace d = bad_metadata d ∷ bad_role_ref in_namespace d ∷ bad_subjects d ∷ []

-- what may be wrong with a document of each kind, lowest number first
abbrev pub refusals : Kind → Data → List (Option Cause)
refusals kinds.Role d = bad_metadata d ∷ bad_rules true d ∷ []
refusals kinds.ClusterRole d = bad_metadata d ∷ bad_rules false d ∷ bad_selector d ∷ []
refusals kinds.RoleBinding d = binding_refusals true d
refusals kinds.ClusterRoleBinding d = binding_refusals false d
refusals kinds.Namespace d = bad_metadata d ∷ []
refusals kinds.ServiceAccount d = bad_metadata d ∷ []
refusals kinds.ApiList d = bad_catalogue d ∷ []
refusals kinds.Universe d = bad_universe d ∷ []
refusals kinds.Group d = bad_metadata d ∷ bad_group d ∷ []
refusals (kinds.List items) d = []
refusals kinds.Other d = []

-- what is wrong with a document of this kind
abbrev pub bad_body : Kind → Data → Option Cause
bad_body kind d = first_of (refusals kind d)

-- why a document is refused, if it is: the lowest number whose condition holds (own)
unfoldable pub fault : Implied → Data → Option Cause
fault implied d = first_of (bad_header implied d ∷ bad_body (kind_of implied d) d ∷ [])

-- ---- what a document gives

-- the namespace of an object, `default` if none is given (own)
unfoldable pub namespace_or_default : List ℕ → List ℕ
namespace_or_default namespace = if is_empty namespace then codes "default" else namespace

-- a Role: its namespace, its name and its rules
unfoldable pub role_in : Data → Option Role
role_in d =
    option_map (λ m. record {
      namespace = namespace_or_default m.namespace;
      name = m.name;
      rules = rules_in true d;
    }) (metadata_at d)

-- a ClusterRole from its parts; its namespace isn't used
abbrev pub cluster_role_from : Metadata → List Rule → Option (List Selector) → ClusterRole
cluster_role_from m rules a = record {
  name = m.name;
  labels = m.labels;
  rules = rules;
  aggregation = a;
}

-- a ClusterRole
unfoldable pub cluster_role_in : Data → Option ClusterRole
cluster_role_in d =
    option_and_then (λ m. option_map
    (λ a. cluster_role_from m (rules_in false d) a) (aggregation_at d)) (metadata_at d)

-- a binding from its parts; a ClusterRoleBinding has no namespace
abbrev pub binding_from : Bool → Metadata → RoleRef → List Subject → Binding
binding_from in_namespace m r ss = record {
  namespace = if in_namespace then Some (namespace_or_default m.namespace) else None;
  name = m.name;
  role = r;
  subjects = ss;
}

-- a RoleBinding, or a ClusterRoleBinding if it isn't in a namespace
unfoldable pub binding_in : Bool → Data → Option Binding
binding_in in_namespace d =
    option_and_then (λ m. option_map
    (λ r. binding_from in_namespace m r (subjects_in d))
    (role_ref_at in_namespace d)) (metadata_at d)

-- a ServiceAccount
abbrev pub account_from : Metadata → Account
account_from m = record { namespace = namespace_or_default m.namespace; name = m.name }

-- what a document of this kind gives; a Namespace gives only its name
abbrev pub content_in : Kind → Data → Option Content
content_in kinds.Role d = option_map (λ r. contents.Object (object.Role r)) (role_in d)
content_in kinds.ClusterRole d =
    option_map (λ r. contents.Object (object.ClusterRole r)) (cluster_role_in d)
content_in kinds.RoleBinding d =
    option_map (λ b. contents.Object (object.Binding b)) (binding_in true d)
content_in kinds.ClusterRoleBinding d =
    option_map (λ b. contents.Object (object.Binding b)) (binding_in false d)
content_in kinds.Namespace d = option_map (λ m. contents.Namespace m.name) (metadata_at d)
content_in kinds.ServiceAccount d =
    option_map (λ m. contents.Account (account_from m)) (metadata_at d)
content_in kinds.ApiList d = option_map contents.ApiList (entries_at d)
content_in kinds.Universe d = option_map contents.Lists (given_lists_at d)
content_in kinds.Group d = option_map contents.Membership (membership_at d)
content_in (kinds.List items) d = None
content_in kinds.Other d = None

-- what a document gives, if it gives anything
unfoldable pub stands : Implied → Data → Option Content
stands implied d = content_in (kind_of implied d) d
