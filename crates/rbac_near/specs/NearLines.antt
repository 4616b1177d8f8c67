-- How near grants are printed (own).
use Rattle.std.specs.Prelude.{ℕ, [], ◌∷◌, ◌++◌, codes, Option, Some, None, option_map, slice_get}
use Rattle.std.specs.Prelude.{unwrap_or}
use Rattle.rbac_terms.specs.Principals.{AsMember, who_key}
use Rattle.rbac_terms.specs.Text.{Text}
use Rattle.rbac_terms.specs.declared.granting.Subject.{Subject}
use Rattle.rbac_terms.specs.declared.granting.Subject.TheVariants.{Group as ForGroup}
use Rattle.rbac_model.specs.Policies.{GrantView, PolicyView}
use Rattle.rbac_text.specs.Field.{field_text}
use Rattle.rbac_text.specs.Row.{field_and_tab, tab}
use Rattle.rbac_text.specs.Rule.{list_text}
use Rattle.rbac_text.specs.Why.{why_text}
use Rattle.rbac_near.specs.declared.near.Missing.{Missing}
use Rattle.rbac_near.specs.declared.near.Missing.TheVariants.{Namespace, Verb, Group, Subresource}
use Rattle.rbac_near.specs.declared.near.Missing.TheVariants.{Name, Member}
use Rattle.rbac_near.specs.declared.near.Near.{Near}

-- the word for what is missing
abbrev pub missing_word : Missing → Text
missing_word Namespace = codes "namespace"
missing_word Verb = codes "verb"
missing_word Group = codes "group"
missing_word Subresource = codes "subresource"
missing_word Name = codes "name"
missing_word Member = codes "member"

-- a namespace as a field; none is printed as an empty one
abbrev pub namespace_text : Option Text → Text
namespace_text namespace = field_text (unwrap_or namespace [])

-- the key of the group that a subject is for; empty for any other subject
abbrev pub group_key : Option Subject → Text
group_key (Some (ForGroup group)) = who_key (AsMember group)
group_key _ = []

-- what the grant has instead of what is missing
abbrev pub has_text : Missing → GrantView → ℕ → Text
has_text Namespace g place = namespace_text g.binding.namespace
has_text Verb g place = list_text g.rule.rule.verbs
has_text Group g place = list_text g.rule.rule.groups
has_text Subresource g place = list_text g.rule.rule.resources
has_text Name g place = list_text g.rule.rule.resource_names
has_text Member g place = field_text (group_key (slice_get g.binding.subjects place))

-- what is missing, what the grant has instead, and the grant, as `--why` has it
abbrev pub near_text : Missing → GrantView → ℕ → Text
near_text missing g place = field_and_tab (missing_word missing) ++ has_text missing g place
    ++ tab ∷ why_text g.binding g.rule.source g.rule.place place

-- the line of a near grant
abbrev pub near_line : PolicyView → Near → Text
near_line p x = unwrap_or (option_map (λ g. near_text x.missing g x.subject_place)
    (slice_get p.grants x.number)) []
