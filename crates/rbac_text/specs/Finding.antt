-- How a finding of lint is printed (own).
use Rattle.std.specs.Prelude.{ℕ, [], ◌∷◌, ◌++◌, ◌==◌, codes, decimal, Option, Some, None}
use Rattle.std.specs.Prelude.{if◌then◌else◌}
use Rattle.rbac_terms.specs.Text.{Text}
use Rattle.rbac_text.specs.Field.{field_text}
use Rattle.rbac_text.specs.Row.{tab, newline, field_and_tab}
use Rattle.rbac_text.specs.Why.{place_text}

-- the word for a finding's code; any other number has no word
unfoldable pub finding_word : ℕ → Text
finding_word code =
    if code == 1 then codes "dangling-role"
    else if code == 2 then codes "unused-role"
    else if code == 3 then codes "redundant-rule"
    else if code == 4 then codes "escalation"
    else if code == 5 then codes "account-without-namespace"
    else if code == 6 then codes "stale-aggregate"
    else if code == 7 then codes "replaced-object"
    else []

-- a place counted from 0 is printed as counted from 1, and no place as the empty field
abbrev pub place_field : Option ℕ → Text
place_field None = field_text []
place_field (Some place) = place_text place

-- the line of a finding: its code and word, its object, the place and the last field, joined by
-- tabs
abbrev pub finding_text : ℕ → Text → Option ℕ → Text → Text
finding_text code object place other =
    codes "L" ++ decimal code ++ tab ∷ field_and_tab (finding_word code) ++ field_and_tab object
    ++ place_field place ++ tab ∷ field_text other ++ newline ∷ []
