use Rattle.std.proofs.Common.{◌∙◌}
use Rattle.rbac_terms.proofs.Texts.{IsCutAtFirst-one}
use Rattle.rbac_index.proofs.RuleListLemmas.{nil_from_test}
use Rattle.rbac_terms.specs.Text.{slash}
use Rattle.rbac_index.proofs.rule_lists.subresource_word.Goals as goal

pub returns-then-is_empty : goal.returns-then-is_empty
returns-then-is_empty c = λ s filled follows.
    filled (IsCutAtFirst-one c.args.text.now follows.0 c.in-Some.field-0-0.now s c.in-Some.subresource.now slash follows.1 (rw (← c.as_bytes.ensures) c.in-Some.ensures)
    ∙ nil_from_test c.in-Some.subresource.now _ c.is_empty.ensures c.if-is_empty.true)
