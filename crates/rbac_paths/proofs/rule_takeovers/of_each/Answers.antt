use Rattle.std.proofs.Common.{◌≡◌, ◌∙◌, [], List, Some, arith, length, refl, slice_get, subst, sym}
use Rattle.std.proofs.lemmas.Option.{same_Some, slice_get_read}
use Rattle.rbac_terms.specs.declared.matching.Rule.{Rule}
use Rattle.rbac_paths.specs.Takeovers.{AreTakeovers, AreTakeoversOfEach}
use Rattle.rbac_paths.specs.declared.takeover.Takeover.{Takeover}
use Rattle.rbac_paths.proofs.RuleTakeovers.{each_of, one_more}
use Rattle.rbac_paths.proofs.rule_takeovers.of_each.Goals as goal

pub loop-rule-preserved : goal.loop-rule-preserved
loop-rule-preserved c =
    let steps = c.args.steps.now in
    let rules = c.args.rules.now in
    let i = c.loop-rule.rule-index in
    let rule = c.rule-item.result in
    let own = c.in_ok-takeovers_of.field-0 in
    let at : slice_get rules i ≡ Some rule = slice_get_read rules (length rules) i rule refl c.loop-rule-test.true c.rule-item.is in
    rw c.in_ok-push.ensures.items
    (one_more (List Takeover) Rule (λ x ts. AreTakeovers steps x ts) rules [] i c.loop-rule.all.items own c.loop-rule.invariant
    (λ x there. subst (λ (y : Rule). AreTakeovers steps y own) (same_Some rule x (sym at ∙ there)) c.in_ok-takeovers_of.ensures))

pub returns : goal.returns
returns c =
    let steps = c.args.steps.now in
    let rules = c.args.rules.now in
    let i = c.loop-rule.rule-index in
    let all = c.loop-rule.all.items in
    let end : length rules ≡ i = (let test = c.loop-rule-test.false in omega (arith, test)) in
    subst (λ (ts : List (List Takeover)). AreTakeoversOfEach steps rules ts) (sym c.from_vec.ensures) (each_of (List Takeover) Rule (λ x ts. AreTakeovers steps x ts) rules [] i all end c.loop-rule.invariant)
