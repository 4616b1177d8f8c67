use Rattle.std.proofs.Common.{◌∙◌}
use Rattle.rbac_question.proofs.TypeWords.{asks_for, type_word}
use Rattle.rbac_question.proofs.asked.typed.Goals as goal

pub invariant_of-result : goal.invariant_of-result
invariant_of-result c =
    type_word c.args.target.now c.type_and_name.result.0.now c.type_and_name.result.1.now _ c.requires.typed c.requires.no_path c.type_and_name.ensures
    (c.in_ok-from_slice.ensures ∙ c.as_bytes.ensures.value)

pub returns : goal.returns
returns c =
    asks_for c.args.target.now c.args.subresource.now c.type_and_name.result.0.now c.type_and_name.result.1.now _ _ _
    c.requires.typed c.requires.no_path c.type_and_name.ensures
    (c.in_ok-from_slice.ensures ∙ c.as_bytes.ensures.value) (c.in_ok-from_slice-2.ensures ∙ c.as_bytes-2.ensures.value)
    (c.in_ok-from_slice-3.ensures ∙ c.as_bytes-3.ensures.value)
