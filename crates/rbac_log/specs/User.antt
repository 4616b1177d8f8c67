-- The users of an event (Auditing, audit.k8s.io/v1 Event).
use Rattle.std.specs.Prelude.{List, ℕ, Option, Some, None, codes, option_map, option_and_then}
use Rattle.serde_json.specs.Data.{Data}
use Rattle.json_fields.specs.declared.trouble.Trouble.{Trouble}
use Rattle.json_fields.specs.declared.trouble.Trouble.TheVariants.{Shape, Memory}
use Rattle.json_fields.specs.Fields.{◌>>=◌, field, text_at, texts_field, non_empty}
use Rattle.rbac_terms.specs.Text.{Text}
use Rattle.rbac_terms.specs.Principals.{Who, AsUser}
use Rattle.rbac_terms.specs.declared.fault.ModelFault.{ModelFault}
use Rattle.rbac_terms.specs.declared.fault.ModelFault.TheVariants.{EmptyName, BadTarget, NoMemory}

-- the text of a field, unless it is empty
unfoldable pub full_text : List ℕ → Data → Option Text
full_text name d = option_and_then non_empty (text_at name d)

-- a user has a name that isn't empty, and exactly the groups that are listed
unfoldable pub user_from : Data → Option Who
user_from d =
    full_text (codes "username") d >>= λ name.
    texts_field (codes "groups") d >>= λ groups.
    Some (AsUser name groups)

-- the user of an event
unfoldable pub user_told : Data → Option Who
user_told d = option_and_then user_from (field (codes "user") d)

-- nobody if it is missing, otherwise the user
abbrev pub user_or_nobody : Option Data → Option (Option Who)
user_or_nobody None = Some None
user_or_nobody (Some d) = option_map Some (user_from d)

-- the user as whom the user of an event acts, if there is one (Authenticating, User impersonation)
unfoldable pub impersonated_at : Data → Option (Option Who)
impersonated_at d = user_or_nobody (field (codes "impersonatedUser") d)

-- a name that no principal has is trouble with the shape
abbrev pub trouble_for : ModelFault → Trouble
trouble_for EmptyName = Shape
trouble_for BadTarget = Shape
trouble_for NoMemory = Memory
