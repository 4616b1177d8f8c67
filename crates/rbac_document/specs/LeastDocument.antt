-- The document that is printed of a least policy: a List of roles and bindings (Using RBAC
-- Authorization, "API objects").
use Rattle.std.specs.Prelude.{◌++◌, ◌∷◌, List, [], Option, None, Some, codes, map}
use Rattle.std.specs.List.{join_by}
use Rattle.json.specs.Print.{quoted}
use Rattle.rbac_terms.specs.Text.{Text}
use Rattle.rbac_terms.specs.declared.matching.Rule.{Rule}
use Rattle.rbac_use.specs.declared.least.Least.{Least}
use Rattle.rbac_use.specs.declared.least.NamespaceRules.{NamespaceRules}
use Rattle.rbac_log.specs.Acting.{account_parts}
use Rattle.rbac_document.specs.Document.{list_text, member_text}

-- rules that are bound to a user: in a namespace, or in the whole cluster if there is none
pub record BoundView : Type 0 where
  pub name : Text
  pub user : Text
  pub home : Option Text
  pub rules : List Rule

-- the rules for the whole cluster, if there are any
abbrev pub everywhere_bound : Text → Text → List Rule → List BoundView
everywhere_bound name user [] = []
everywhere_bound name user (rule ∷ rules) = record {
  name = name;
  user = user;
  home = None;
  rules = rule ∷ rules;
} ∷ []

-- the rules of a namespace
abbrev pub namespace_bound : Text → Text → NamespaceRules → BoundView
namespace_bound name user part = record {
  name = name;
  user = user;
  home = Some part.namespace;
  rules = part.rules;
}

-- the rules of a least policy and where they are bound: those for the whole cluster, and then those
-- of each namespace
abbrev pub bounds_of : Text → Text → Least → List BoundView
bounds_of name user l = everywhere_bound name user l.everywhere
    ++ map (namespace_bound name user) l.namespaces.items

-- texts as a JSON list on one line
abbrev pub texts_text : List Text → Text
texts_text texts = codes "[" ++ join_by quoted (codes ", ") texts ++ codes "]"

-- a list of a rule with its name, before the next one, unless it is empty
abbrev pub words_text : Text → List Text → Text
words_text name [] = []
words_text name (word ∷ words) =
    quoted name ++ codes ": " ++ texts_text (word ∷ words) ++ codes ", "

-- a rule as JSON, without its empty lists; each rule has verbs
unfoldable pub rule_text : Rule → Text
rule_text rule =
    codes "{" ++ words_text (codes "apiGroups") rule.groups
    ++ words_text (codes "resources") rule.resources
    ++ words_text (codes "resourceNames") rule.resource_names
    ++ words_text (codes "nonResourceURLs") rule.urls
    ++ codes "\"verbs\": " ++ texts_text rule.verbs ++ codes "}"

-- the kind of a role
abbrev pub role_kind : Option Text → Text
role_kind None = codes "ClusterRole"
role_kind (Some namespace) = codes "Role"

-- the kind of its binding
abbrev pub binding_kind : Option Text → Text
binding_kind None = codes "ClusterRoleBinding"
binding_kind (Some namespace) = codes "RoleBinding"

-- the namespace of an object, after its name, if it is in one
abbrev pub home_text : Option Text → Text
home_text None = []
home_text (Some namespace) = codes ", \"namespace\": " ++ quoted namespace

-- what an object begins with: its kind, its name and its namespace
unfoldable pub head_text : Text → Text → Option Text → Text
head_text kind name home =
    codes "{\"apiVersion\": \"rbac.authorization.k8s.io/v1\", \"kind\": " ++ quoted kind
    ++ codes ", \"metadata\": {\"name\": " ++ quoted name ++ home_text home ++ codes "}"

-- a role with these rules, as JSON
unfoldable pub role_text : BoundView → Text
role_text b =
    head_text (role_kind b.home) b.name b.home
    ++ codes ", \"rules\": [" ++ join_by rule_text (codes ", ") b.rules ++ codes "]}"

-- the role that a binding refers to
abbrev pub role_ref_text : Text → Text → Text
role_ref_text kind name =
    codes ", \"roleRef\": {\"apiGroup\": \"rbac.authorization.k8s.io\", \"kind\": " ++ quoted kind
    ++ codes ", \"name\": " ++ quoted name ++ codes "}"

-- the subject for a user: a service account by its namespace and name, any other user by its name
-- (Using RBAC Authorization, Referring to subjects)
abbrev pub subject_for : Text → Option (Text × Text) → Text
subject_for user None =
    codes "{\"apiGroup\": \"rbac.authorization.k8s.io\", \"kind\": \"User\", \"name\": "
    ++ quoted user ++ codes "}"
subject_for user (Some parts) =
    codes "{\"kind\": \"ServiceAccount\", \"name\": " ++ quoted parts.1
    ++ codes ", \"namespace\": " ++ quoted parts.0 ++ codes "}"

-- a binding of the role to its user, as JSON
unfoldable pub binding_text : BoundView → Text
binding_text b =
    head_text (binding_kind b.home) b.name b.home ++ role_ref_text (role_kind b.home) b.name
    ++ codes ", \"subjects\": [" ++ subject_for b.user (account_parts b.user) ++ codes "]}"

-- the role and its binding, each on a line of its own
abbrev pub bound_text : BoundView → Text
bound_text b = role_text b ++ codes ",\n    " ++ binding_text b

-- the document of a least policy, whose roles and bindings have this name and bind this user
abbrev pub least_text : Text → Text → Least → Text
least_text name user l =
    codes "{\n  \"apiVersion\": \"v1\",\n  \"kind\": \"List\""
    ++ member_text (codes "items") (list_text bound_text (bounds_of name user l))
    ++ codes "\n}\n"
