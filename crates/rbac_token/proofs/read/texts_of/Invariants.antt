use Rattle.std.proofs.Common.{◌≡◌, List, map, take}
use Rattle.std.specs.Prelude.{◌==◌}
use Rattle.std.specs.List.{slice_split}
use Rattle.rbac_terms.specs.Text.{Text}
use Rattle.rbac_text.specs.Field.{field_text}
use Rattle.rbac_text.specs.Row.{tab}
use Rattle.rbac_token.proofs.read.texts_of.Given as goal

abbrev pub invariant-loop-field : goal.invariant-loop-field
invariant-loop-field l =
    (texts : List Text) → slice_split (λ byte. byte == tab) l.bytes ≡ map field_text texts → l.texts.items ≡ take l.field-index texts
