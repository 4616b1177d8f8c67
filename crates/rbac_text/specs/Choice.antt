-- How a name or namespace is printed where any can be meant (own).
use Rattle.std.specs.Prelude.{[], ◌++◌, ◌∷◌, Option, Some, None, codes, if◌then◌else◌}
use Rattle.std.specs.Str.{bytes_eq}
use Rattle.rbac_terms.specs.Text.{Text, star}
use Rattle.rbac_text.specs.Field.{field_text, code_text}
use Rattle.rbac_text.specs.Row.{tab}

-- without a name or namespace, any is meant and `*` is printed; the name `*` is printed by its
-- code, and any other name as a field
abbrev pub choice_text : Option Text → Text
choice_text None = codes "*"
choice_text (Some name) = if bytes_eq name (codes "*") then code_text star else field_text name

-- a choice with the tab after it
abbrev pub choice_and_tab : Option Text → Text
choice_and_tab name = choice_text name ++ tab ∷ []
