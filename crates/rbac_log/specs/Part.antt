-- Which members of a line's values are read.
use Rattle.std.specs.Prelude.{Bool, List, [], ◌∷◌, codes, Option, Some, None, if◌then◌else◌}
use Rattle.std.specs.Str.{bytes_eq}
use Rattle.serde_json.specs.Data.{Data}
use Rattle.json_list.specs.Lean.{is_among, lean}
use Rattle.rbac_terms.specs.Text.{Text}
use Rattle.rbac_log.specs.declared.part.Part.{Part}
use Rattle.rbac_log.specs.declared.part.Part.TheVariants.{Event, Field}

-- a field of an event that is read (Auditing, audit.k8s.io/v1 Event)
abbrev pub is_of_event : Text → Bool
is_of_event name = is_among (
    codes "kind" ∷ codes "apiVersion" ∷ codes "stage" ∷ codes "requestURI" ∷ codes "verb"
    ∷ codes "user" ∷ codes "impersonatedUser" ∷ codes "objectRef" ∷ codes "responseStatus"
    ∷ codes "annotations" ∷ []) name

-- a member of such a field that is read
abbrev pub is_of_field : Text → Bool
is_of_field name = is_among (
    codes "username" ∷ codes "groups" ∷ codes "apiGroup" ∷ codes "resource" ∷ codes "subresource"
    ∷ codes "namespace" ∷ codes "name" ∷ codes "code" ∷ codes "authorization.k8s.io/decision" ∷ [])
    name

-- what is read of a member of this name: the items of a list as events, of an event the fields
-- listed above, of these their members listed above; and no other member (own)
unfoldable pub read_under : Part → Text → Option Part
read_under Event name =
    if bytes_eq name (codes "items") then Some Event
    else if is_of_event name then Some Field
    else None
read_under Field name = if is_of_field name then Some Field else None

-- a line's value without the members that aren't read
abbrev pub read_of : Data → Data
read_of d = lean read_under Event d
