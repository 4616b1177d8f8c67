use Rattle.std.proofs.Common.{ap, map, ◌∙◌}
use Rattle.rbac_token.proofs.Fields.{all_read, one_more}
use Rattle.rbac_token.proofs.read.texts_of.Goals as goal

pub loop-field-preserved : goal.loop-field-preserved
loop-field-preserved c = λ texts e.
    (let same = ap (λ fields. map (λ f. f.now) fields) c.as_slice-field-items.ensures.value ∙ c.in_ok-fields_of.ensures ∙ e in
    one_more _ texts c.loop-field.field-index _ _ _ same c.loop-field-test.true c.in_ok-push_text.ensures (c.loop-field.invariant texts e))

pub returns : goal.returns
returns c = λ texts e.
    (let same = ap (λ fields. map (λ f. f.now) fields) c.as_slice-field-items.ensures.value ∙ c.in_ok-fields_of.ensures ∙ e in
    all_read _ texts c.loop-field.field-index _ same c.loop-field-test.false (c.loop-field.invariant texts e))
