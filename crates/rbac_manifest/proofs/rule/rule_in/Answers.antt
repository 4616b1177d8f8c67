use Rattle.std.proofs.Common.{refl}
use Rattle.rbac_manifest.proofs.rule.rule_in.Goals as goal

pub returns : goal.returns
returns c =
    rw (c.in_ok-words_field.ensures, c.in_ok-words_field-2.ensures, c.in_ok-words_field-3.ensures, c.in_ok-words_field-4.ensures, c.in_ok-words_field-5.ensures) refl
