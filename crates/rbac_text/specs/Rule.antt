-- How a rule, and the line of a rule that somebody has, are printed (own).
use Rattle.std.specs.Prelude.{ℕ, [], ◌∷◌, ◌++◌, ◌==◌, List, codes, map, if◌then◌else◌}
use Rattle.std.specs.List.{flat_map, join_with_byte}
use Rattle.rbac_terms.specs.Text.{Text}
use Rattle.rbac_terms.specs.declared.matching.Rule.{Rule}
use Rattle.rbac_model.specs.Policies.{GrantView}
use Rattle.rbac_text.specs.Field.{code_text, field_text}
use Rattle.rbac_text.specs.Row.{tab, newline}
use Rattle.rbac_text.specs.Why.{reason_text}

-- the byte between the words of a list
abbrev pub comma : ℕ
comma = 44

-- a comma is printed by its code, and any other byte as it is
abbrev pub without_comma : ℕ → Text
without_comma b = if b == comma then code_text b else b ∷ []

-- a word of a list is printed as a field, but each comma by its code
abbrev pub item_text : Text → Text
item_text w = flat_map without_comma (field_text w)

-- a list is printed as its words, joined by commas, in brackets
abbrev pub list_text : List Text → Text
list_text ws = codes "[" ++ join_with_byte comma (map item_text ws) ++ codes "]"

-- a list with the tab after it
abbrev pub list_and_tab : List Text → Text
list_and_tab ws = list_text ws ++ tab ∷ []

-- a rule: its verbs, API groups, resources, object names and URLs, joined by tabs
abbrev pub rule_text : Rule → Text
rule_text r =
    list_and_tab r.verbs ++ list_and_tab r.groups ++ list_and_tab r.resources
    ++ list_and_tab r.resource_names ++ list_text r.urls

-- the line of a rule that a grant gives through the subject at that place: the reason and the rule,
-- joined by a tab
abbrev pub grant_text : GrantView → ℕ → Text
grant_text g subject =
    reason_text g.binding g.rule.source g.rule.place subject
    ++ tab ∷ rule_text g.rule.rule ++ newline ∷ []
