-- How lines of unused parts are printed (own).
use Rattle.std.specs.Prelude.{ℕ, [], ◌∷◌, ◌++◌, List, Option, Some, None, codes}
use Rattle.std.specs.Prelude.{option_and_then, option_map, slice_get, unwrap_or}
use Rattle.rbac_terms.specs.Text.{Text}
use Rattle.rbac_terms.specs.Granting.{subject_principal}
use Rattle.rbac_terms.specs.Principals.{who_key}
use Rattle.rbac_terms.specs.declared.granting.Binding.{Binding}
use Rattle.rbac_terms.specs.declared.matching.Rule.{Rule as ARule}
use Rattle.rbac_model.specs.Policies.{GrantView, PolicyView}
use Rattle.rbac_text.specs.Choice.{choice_text}
use Rattle.rbac_text.specs.Field.{field_text}
use Rattle.rbac_text.specs.Row.{binding_text, field_and_tab, newline, tab}
use Rattle.rbac_text.specs.Why.{named_text, place_text, source_text}
use Rattle.rbac_use.specs.declared.permission.TargetPlaces.{TargetPlaces}
use Rattle.rbac_use.specs.declared.permission.TargetPlaces.TheVariants.{Resource, Url}
use Rattle.rbac_use.specs.declared.unused.Part.{Part}
use Rattle.rbac_use.specs.declared.unused.Part.TheVariants.{Whole, Subject, Rule, Permission}
use Rattle.rbac_use.specs.declared.unused.Unused.{Unused}

-- the word for the kind of a line
abbrev pub part_word : Part → Text
part_word Whole = codes "binding"
part_word (Subject i) = codes "subject"
part_word (Rule n) = codes "rule"
part_word (Permission n verb target) = codes "permission"

-- the word at that place; empty if there is none
abbrev pub word_at : List Text → ℕ → Text
word_at words i = unwrap_or (slice_get words i) []

-- the object name at that place; none for any name
abbrev pub name_at : List Text → Option ℕ → Option Text
name_at names None = None
name_at names (Some i) = slice_get names i

-- the API group, the resource and the object name; of a URL the second alone
abbrev pub target_text : ARule → TargetPlaces → Text
target_text r (Url k) = field_and_tab [] ++ field_and_tab (word_at r.urls k) ++ field_text []
target_text r (Resource j k l) = field_and_tab (word_at r.groups j)
    ++ field_and_tab (word_at r.resources k) ++ choice_text (name_at r.resource_names l)

-- the role where a grant's rule is written, and the rule's place there, each with the tab after it
abbrev pub rule_text : GrantView → Text
rule_text g = source_text g.rule.source ++ tab ∷ place_text g.rule.place ++ tab ∷ []

-- the key of whom the subject at that place of the binding stands for; empty for nobody
abbrev pub key_at : Binding → ℕ → Text
key_at b i = unwrap_or (option_map who_key
    (option_and_then (subject_principal b.namespace) (slice_get b.subjects i))) []

-- the place of a subject, and its key, each with the tab after it
abbrev pub subject_text : Binding → ℕ → Text
subject_text b i = place_text i ++ tab ∷ field_and_tab (key_at b i)

-- two empty fields, each with the tab after it
abbrev pub no_pair : Text
no_pair = field_and_tab [] ++ field_and_tab []

-- three empty fields
abbrev pub no_target : Text
no_target = field_and_tab [] ++ field_and_tab [] ++ field_text []

-- what is printed of the grant with that number
abbrev pub of_grant : PolicyView → ℕ → (GrantView → Text) → Text
of_grant p n text = unwrap_or (option_map text (slice_get p.grants n)) []

-- the words of a permission: its verb and its target
abbrev pub words_text : ARule → ℕ → TargetPlaces → Text
words_text r verb target = field_and_tab (word_at r.verbs verb) ++ target_text r target

-- the last seven fields of a line: the role where the rule is written and the rule's place there;
-- the subject's place and key, or nothing and the verb; and the target
abbrev pub part_text : PolicyView → Binding → Part → Text
part_text p b Whole = no_pair ++ no_pair ++ no_target
part_text p b (Subject i) = no_pair ++ subject_text b i ++ no_target
part_text p b (Rule n) = of_grant p n (λ g. rule_text g ++ no_pair ++ no_target)
part_text p b (Permission n verb target) =
    of_grant p n (λ g. rule_text g ++ field_and_tab [] ++ words_text g.rule.rule verb target)

-- a binding and the role that it names, each with the tab after it
abbrev pub role_text : Binding → Text
role_text b = binding_text b ++ tab ∷ named_text b.namespace b.role ++ tab ∷ []

-- a line of ten fields
abbrev pub unused_text : PolicyView → Part → Binding → Text
unused_text p part b = field_and_tab (part_word part) ++ role_text b ++ part_text p b part
    ++ newline ∷ []

-- the line of an unused part
abbrev pub unused_line : PolicyView → Unused → Text
unused_line p x = unwrap_or (option_map (unused_text p x.part)
    (slice_get p.held.bindings x.binding)) []
