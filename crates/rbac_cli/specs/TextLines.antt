-- The lines of what a command writes.
use Rattle.std.specs.Prelude.{◌==◌, List}
use Rattle.std.specs.List.{slice_split}
use Rattle.rbac_terms.specs.Text.{Text}
use Rattle.rbac_text.specs.Row.{newline}

-- the lines of a text, each without the newline that ends it; the last is what follows all newlines
abbrev pub lines_in : Text → List Text
lines_in text = slice_split (λ byte. byte == newline) text
