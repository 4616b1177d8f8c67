use Rattle.std.proofs.Common.{List, subst, sym}
use Rattle.std.specs.Prelude.{IfOk}
use Rattle.std.proofs.lemmas.Result.{IfOk-weaker}
use Rattle.rbac_terms.specs.declared.matching.Rule.{Rule}
use Rattle.rbac_lint.specs.declared.rules_by_word.Field.{Field}
use Rattle.rbac_lint.specs.RulesByWord.{PlaceLists, AreRulesByWord}
use Rattle.rbac_lint.specs.Candidates.{FindsEach, AreMatching}
use Rattle.rbac_lint.proofs.Looked.{matching_found}
use Rattle.rbac_lint.proofs.candidates.candidates_for.Goals as goal

pub returns-in-Urls : goal.returns-in-Urls
returns-in-Urls c =
    let l = c.args.by_word.now in
    subst (λ (field : Field). IfOk c.starting.result (λ k. (rules : List Rule) → AreRulesByWord rules l → FindsEach field l c.args.word.now k)) (sym c.in-Urls.is) c.starting.ensures

pub returns-in_default : goal.returns-in_default
returns-in_default c =
    let field = c.args.field in
    let l = c.args.by_word.now in
    let w = c.args.word.now in
    IfOk-weaker c.matching.result (AreMatching c.lists.result.now w) (λ k. (rules : List Rule) → AreRulesByWord rules l → FindsEach field l w k)
    (λ k m rules is. matching_found field rules l w k c.in_default.not-Urls is (subst (λ (x : PlaceLists). AreMatching x w k) c.lists.ensures m)) c.matching.ensures
