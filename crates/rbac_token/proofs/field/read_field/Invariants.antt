use Rattle.std.proofs.Common.{◌≡◌, ◌++◌, length}
use Rattle.rbac_terms.specs.Text.{Text}
use Rattle.rbac_text.specs.Field.{field_text}
use Rattle.rbac_token.proofs.Printed.{Spells}
use Rattle.rbac_token.proofs.field.read_field.Given as goal

abbrev pub invariant-loop-byte : goal.invariant-loop-byte
invariant-loop-byte l = (text : Text) → l.fn.field ≡ field_text text → (rest : Text) × (text ≡ l.text ++ rest) × Spells rest l.rest

abbrev pub decreases-loop-byte : goal.decreases-loop-byte
decreases-loop-byte l = length l.rest
