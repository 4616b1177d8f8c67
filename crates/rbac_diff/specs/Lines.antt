-- How changes are printed (own).
use Rattle.std.specs.Prelude.{ℕ, [], ◌∷◌, ◌++◌}
use Rattle.rbac_terms.specs.Text.{Text}
use Rattle.rbac_text.specs.Row.{tab, newline, binding_text}
use Rattle.rbac_diff.specs.Changes.{ChangeView}
use Rattle.rbac_diff.specs.declared.change.ChangeKind.{ChangeKind}
use Rattle.rbac_diff.specs.declared.change.ChangeKind.TheVariants.{Gained, Lost}

-- `+` for what is gained, `-` for what is lost
abbrev pub sign : ChangeKind → ℕ
sign Gained = 43
sign Lost = 45

-- the line of a change: its sign, its permission and the binding that has it, joined by tabs
abbrev pub change_text : ChangeView → Text
change_text x = sign x.kind ∷ tab ∷ x.permission ++ binding_text x.binding ++ newline ∷ []
