-- The text of a yes, from what was found to explain it.
use Rattle.std.specs.Prelude.{ℕ, Bool, true, false, List, [], ◌++◌, codes}
use Rattle.rbac_model.specs.Sources.{source_of}
use Rattle.rbac_text.specs.Why.{why_text}
use Rattle.rbac_model.specs.declared.why.Why.{Why}
use Rattle.rbac_cli.specs.Out.{word_line}

-- the line that explains a yes
abbrev pub found_text : Why → List ℕ
found_text found =
    why_text found.binding.now (source_of found.source) found.rule_place found.subject_place

-- with `-q` nothing; otherwise yes, and with `--why` the line that explains it
abbrev pub yes_text : Bool → Bool → Why → List ℕ
yes_text true why found = []
yes_text false true found = word_line (codes "yes") ++ found_text found
yes_text false false found = word_line (codes "yes")
