-- How the line of a row begins and ends.
use Rattle.std.specs.Prelude.{◌≡◌, ◌∷◌, ◌++◌, [], IfSome, Option}
use Rattle.rbac_terms.specs.Keys.{KeyTexts}
use Rattle.rbac_terms.specs.Text.{Text}
use Rattle.rbac_terms.specs.declared.granting.Binding.{Binding}
use Rattle.rbac_text.specs.Row.{binding_text, field_and_tab, newline}
use Rattle.rbac_matrix.specs.RowTexts.{texts_shown}
use Rattle.rbac_matrix.specs.declared.row.Row.{Row}
use Rattle.rbac_cli.specs.declared.row_ends.RowEnds.{RowEnds}

-- the text of a row's line before its target
abbrev pub front_text : KeyTexts → Text
front_text k = field_and_tab k.principal ++ field_and_tab k.namespace ++ field_and_tab k.verb

-- the text of a row's line after its target
abbrev pub back_text : Binding → Text
back_text b = binding_text b ++ newline ∷ []

-- the text is that of the row's line before its target, if there is a row
abbrev pub IsFrontOf : Option Row → Text → Type 0
IsFrontOf row text = IfSome row (λ r. text ≡ front_text (texts_shown r))

-- the text is that of the row's line after its target, if there is a row
abbrev pub IsBackOf : Option Row → Text → Type 0
IsBackOf row text = IfSome row (λ r. text ≡ back_text r.binding.now)

-- these are the ends of the row's line, if there is a row
abbrev pub AreEndsOf : Option Row → RowEnds → Type 0
AreEndsOf row ends = IsFrontOf row ends.front.items × IsBackOf row ends.back.items
