-- The Universe document (own).
use Rattle.std.specs.Prelude.{◌&&◌, Bool, true, not, List, [], ◌∷◌, codes, Option, Some, None}
use Rattle.std.specs.Prelude.{option_map, is_none, is_some, if◌then◌else◌}
use Rattle.serde_json.specs.Data.{Data}
use Rattle.serde_json.specs.Find.{as_str}
use Rattle.json_fields.specs.Fields.{◌>>=◌, field, list_field, texts_field, text_at, flag_at}
use Rattle.json_fields.specs.Fields.{is_text, text_in, is_empty, non_empty, given_and, is_no_text}
use Rattle.json_fields.specs.Fields.{is_no_texts, is_no_flag, any_of}
use Rattle.json_fields.specs.Lists.{all_at}
use Rattle.rbac_manifest.specs.Lists.{is_bad_list}
use Rattle.json_fields.specs.declared.trouble.Trouble.{Trouble}
use Rattle.json_fields.specs.declared.trouble.Trouble.TheVariants.{Shape, Memory}
use Rattle.rbac_terms.specs.Text.{Text}
use Rattle.rbac_terms.specs.Principals.{Who, AsUser, AsMember}
use Rattle.rbac_terms.specs.declared.fault.ModelFault.{ModelFault}
use Rattle.rbac_terms.specs.declared.fault.ModelFault.TheVariants.{EmptyName, BadTarget, NoMemory}
use Rattle.rbac_universe.specs.declared.lists.ListedResource.{ListedResource}
use Rattle.rbac_lists.specs.declared.given_lists.GivenLists.{GivenLists}

-- why a principal or a resource is refused: its name or text has the wrong shape, or reading it ran
-- out of memory
abbrev pub trouble_of : ModelFault → Trouble
trouble_of EmptyName = Shape
trouble_of BadTarget = Shape
trouble_of NoMemory = Memory

-- ---- principals

-- the name that a value is: a text that isn't empty
abbrev pub name_in : Data → Option Text
name_in d = as_str d >>= non_empty

-- the user of this name, with the groups that the item gives; if they are missing, there are none
unfoldable pub user_at : Data → Data → Option Who
user_at name d =
    name_in name >>= λ user.
    texts_field (codes "groups") d >>= λ groups.
    Some (AsUser user groups)

-- a member of the group of this name
unfoldable pub member_at : Data → Option Who
member_at name = option_map AsMember (name_in name)

-- a user, perhaps with groups, or a member of one group: exactly one of `user` and `group` is
-- given, and `groups` only with `user`
abbrev pub principal_by : (user group groups : Option Data) → Data → Option Who
principal_by (Some user) None groups d = user_at user d
principal_by None (Some group) None d = member_at group
principal_by user group groups d = None

-- the principal that an item gives, unless it is bad
unfoldable pub principal_at : Data → Option Who
principal_at d =
    principal_by (field (codes "user") d) (field (codes "group") d) (field (codes "groups") d) d

-- a name is bad if it isn't a text or is empty
abbrev pub is_bad_name : Data → Bool
is_bad_name d = is_empty (text_in d)

-- a field is given
abbrev pub has : Text → Data → Bool
has name d = is_some (field name d)

-- a principal is bad if it has neither a user nor a group, or both, if it has groups beside a
-- group, if its user or group isn't a text or is empty, or if its groups aren't a list of texts
unfoldable pub is_bad_principal : Data → Bool
is_bad_principal p = any_of (
    (not (has (codes "user") p) && not (has (codes "group") p))
    ∷ (has (codes "user") p && has (codes "group") p)
    ∷ (has (codes "group") p && has (codes "groups") p)
    ∷ given_and is_bad_name (field (codes "user") p)
    ∷ given_and is_bad_name (field (codes "group") p)
    ∷ is_no_texts (codes "groups") p
    ∷ [])

-- ---- resources

-- the resource that an item gives, unless it is bad; its text is required, a missing group is the
-- core group, and a missing `namespaced` is true
unfoldable pub resource_at : Data → Option ListedResource
resource_at d =
    field (codes "resource") d >>= λ resource.
    as_str resource >>= λ text.
    text_at (codes "group") d >>= λ group.
    flag_at true (codes "namespaced") d >>= λ namespaced.
    Some (record { group = group; text = text; namespaced = namespaced })

-- a resource is bad if its text is missing or isn't a text, or if another field has another shape
unfoldable pub is_bad_resource : Data → Bool
is_bad_resource r = any_of (
    not (given_and is_text (field (codes "resource") r))
    ∷ is_no_text (codes "group") r
    ∷ is_no_flag (codes "namespaced") r
    ∷ [])

-- ---- the document

-- what the items of the list in a field give, if none is bad
abbrev pub items_field : {X : Type 0} → (Data → Option X) → Text → Data → Option (List X)
items_field read name d = list_field name d >>= λ items. all_at read items

-- what a field gives, even as an empty list; a missing field gives no list
abbrev pub where_given : {X : Type 0} → (Text → Data → Option X) → Text → Data → Option (Option X)
where_given read name d =
    if is_none (field name d) then Some None else option_map Some (read name d)

-- the lists that a Universe document gives, unless one of them is bad (M10)
unfoldable pub given_lists_at : Data → Option GivenLists
given_lists_at d =
    where_given (items_field principal_at) (codes "principals") d >>= λ principals.
    where_given texts_field (codes "namespaces") d >>= λ namespaces.
    where_given texts_field (codes "verbs") d >>= λ verbs.
    where_given (items_field resource_at) (codes "resources") d >>= λ resources.
    where_given texts_field (codes "names") d >>= λ names.
    where_given texts_field (codes "urls") d >>= λ urls.
    Some (record {
      principals = principals;
      namespaces = namespaces;
      verbs = verbs;
      resources = resources;
      names = names;
      urls = urls;
    })

-- a Universe document is bad if its principals or resources aren't a list, if one of them is bad,
-- or if another field isn't a list of texts
unfoldable pub is_bad_universe : Data → Bool
is_bad_universe d = any_of (
    is_bad_list is_bad_principal (list_field (codes "principals") d)
    ∷ is_no_texts (codes "namespaces") d
    ∷ is_no_texts (codes "verbs") d
    ∷ is_bad_list is_bad_resource (list_field (codes "resources") d)
    ∷ is_no_texts (codes "names") d
    ∷ is_no_texts (codes "urls") d
    ∷ [])
