-- Lines of a `diff` that begin with `+`.
use Rattle.std.specs.Prelude.{Any, codes}
use Rattle.rbac_terms.specs.Text.{Text, BeginsWith}
use Rattle.rbac_cli.specs.TextLines.{lines_in}

-- a line begins with `+`
abbrev pub HasPlusLine : Text → Type 0
HasPlusLine text = Any (λ line. BeginsWith line (codes "+")) (lines_in text)
