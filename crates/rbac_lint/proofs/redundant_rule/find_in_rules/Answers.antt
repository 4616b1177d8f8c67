use Rattle.std.proofs.Common.{◌∙◌, List, subst}
use Rattle.rbac_terms.specs.declared.matching.Rule.{Rule}
use Rattle.rbac_terms.proofs.Cases.{on_ok}
use Rattle.rbac_model.specs.Sources.{source_of}
use Rattle.rbac_lint.specs.Lines.{AddsLines, OfEach}
use Rattle.rbac_lint.specs.Findings.{IsRedundantAt}
use Rattle.rbac_lint.proofs.redundant_rule.find_in_rules.Goals as goal

pub returns : goal.returns
returns c =
    let P : List Rule → Type 0 = λ rules. AddsLines (OfEach (λ i r. IsRedundantAt (source_of c.args.role) rules i) rules) c.args.found.now c.find_in_ordered.new.found in
    on_ok c.find_in_ordered.result (λ h. subst P (c.as_slice.ensures.value ∙ c.in_ok-ordered.ensures) h) c.find_in_ordered.ensures
