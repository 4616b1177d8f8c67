-- What an event says was asked for (Auditing, audit.k8s.io/v1 Event).
use Rattle.std.specs.Prelude.{◌==◌, ◌&&◌, Bool, not, [], ◌++◌, ◌∷◌, Option, Some, None, codes}
use Rattle.std.specs.Prelude.{option_map, if◌then◌else◌}
use Rattle.std.specs.List.{before_first}
use Rattle.std.specs.Str.{bytes_eq}
use Rattle.serde_json.specs.Data.{Data}
use Rattle.percent_encoding.specs.Percent.{percent_decode}
use Rattle.json_fields.specs.Fields.{◌>>=◌, field, text_at, is_object, is_empty}
use Rattle.rbac_terms.specs.Text.{Text, slash}
use Rattle.rbac_terms.specs.Targets.{What, Resource, Url, is_path}
use Rattle.rbac_log.specs.Outcome.{Outcome, or_fault}
use Rattle.rbac_log.specs.declared.asked.Asked.{Asked}
use Rattle.rbac_log.specs.declared.asked.Reference.{Reference}
use Rattle.rbac_log.specs.declared.fault.LineFault.TheVariants.{BadObjectRef, BadUri}

-- a target, unless it isn't a proper one (own)
abbrev pub is_proper : What → Bool
is_proper (Resource group text name) = not (is_empty text) && not (is_path text)
is_proper (Url path) = is_path path

unfoldable pub proper : What → Option What
proper target = if is_proper target then Some target else None

-- ---- a resource

-- the object that is referred to; a field that is missing is empty
unfoldable pub reference_from : Data → Option Reference
reference_from d =
    text_at (codes "apiGroup") d >>= λ group.
    text_at (codes "resource") d >>= λ resource.
    text_at (codes "subresource") d >>= λ subresource.
    text_at (codes "namespace") d >>= λ namespace.
    text_at (codes "name") d >>= λ name.
    Some (record {
      group = group;
      resource = resource;
      subresource = subresource;
      namespace = namespace;
      name = name;
    })

unfoldable pub reference_at : Data → Option Reference
reference_at d = if is_object d then reference_from d else None

-- a resource, and its subresource if there is one (Using RBAC Authorization, Referring to
-- resources)
abbrev pub full_resource : Text → Text → Text
full_resource resource subresource =
    if is_empty subresource then resource else resource ++ slash ∷ subresource

-- the object name that the server asked for: none to create an object, for which the log has the
-- name that it got
abbrev pub asked_name : Text → Text → Text → Text
asked_name verb subresource name =
    if bytes_eq verb (codes "create") && is_empty subresource then [] else name

-- what is asked for with this verb
abbrev pub resource_asked : Text → Reference → Asked
resource_asked verb r = record {
  namespace = r.namespace;
  target = proper (Resource r.group (full_resource r.resource r.subresource)
      (asked_name verb r.subresource r.name));
}

-- ---- a URL

-- the path of a URI: what stands before its `?`, with each %XX decoded
unfoldable pub path_of : Text → Text
path_of uri = percent_decode (before_first (λ b. b == 63) uri)

-- what is asked for
unfoldable pub url_asked : Text → Asked
url_asked uri = record { namespace = []; target = proper (Url (path_of uri)) }

-- ---- either

-- a resource if the event refers to an object, otherwise a URL
abbrev pub asked_for : Text → Option Data → Option Text → Outcome Asked
asked_for verb None uri = or_fault BadUri (option_map url_asked uri)
asked_for verb (Some d) uri = or_fault BadObjectRef (option_map (resource_asked verb) (reference_at d))

unfoldable pub asked_at : Text → Data → Outcome Asked
asked_at verb d = asked_for verb (field (codes "objectRef") d) (text_at (codes "requestURI") d)
