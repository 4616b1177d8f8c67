use Rattle.std.proofs.Common.{refl}
use Rattle.rbac_log.specs.Asked.{reference_from}
use Rattle.rbac_log.proofs.asked.reference_from.Goals as goal

pub returns : goal.returns
unfolding reference_from
returns c =
    rw (c.in_ok-word_field.ensures, c.in_ok-word_field-2.ensures, c.in_ok-word_field-3.ensures, c.in_ok-word_field-4.ensures, c.in_ok-word_field-5.ensures) refl
