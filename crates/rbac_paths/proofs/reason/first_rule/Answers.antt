use Rattle.std.proofs.Common.{◌≡◌, ◌∙◌, List, Some, ap, arith, length, refl, slice_get, subst, sym}
use Rattle.std.specs.Option.{option_copied}
use Rattle.std.proofs.lemmas.Option.{slice_get-get_or}
use Rattle.rbac_terms.specs.declared.matching.Rule.{Rule}
use Rattle.rbac_paths.specs.Aims.{aim_of}
use Rattle.rbac_paths.proofs.Reasons.{none_of_rule_more, none_of_rules}
use Rattle.rbac_paths.proofs.reason.first_rule.Goals as goal

pub loop-place-preserved : goal.loop-place-preserved
loop-place-preserved c =
    let items : List Rule = c.as_slice-rule-items.result.now in
    let there : slice_get items c.loop-place.place ≡ Some c.rule-item.result = slice_get-get_or items c.loop-place.place c.rule-item.result c.loop-place-test.true ∙ ap (λ (r : Rule). Some r) (sym c.rule-item.is) in
    none_of_rule_more (aim_of c.args.aim) (option_copied c.args.home) c.args.rules.now c.loop-place.place c.rule-item.result
    (subst (λ (rs : List Rule). slice_get rs c.loop-place.place ≡ Some c.rule-item.result) c.as_slice-rule-items.ensures there)
    (λ serves. (let both = c.if-is_served_by.ensures.1 serves in cc)) c.loop-place.invariant

pub returns-then-is_served_by : goal.returns-then-is_served_by
returns-then-is_served_by c =
    let items : List Rule = c.as_slice-rule-items.result.now in
    let there : slice_get items c.loop-place.place ≡ Some c.rule-item.result = slice_get-get_or items c.loop-place.place c.rule-item.result c.loop-place-test.true ∙ ap (λ (r : Rule). Some r) (sym c.rule-item.is) in (
      c.rule-item.result,
      record {
        here = subst (λ (rs : List Rule). slice_get rs c.loop-place.place ≡ Some c.rule-item.result) c.as_slice-rule-items.ensures there;
        holds = c.if-is_served_by.ensures.0 refl;
        none_before = c.loop-place.invariant;
      },
    )

pub returns : goal.returns
returns c =
    none_of_rules (aim_of c.args.aim) (option_copied c.args.home) c.args.rules.now c.loop-place.place
    (let end = c.loop-place-test.false in let same = ap (λ (rs : List Rule). length rs) c.as_slice-rule-items.ensures in omega (arith, end, same)) c.loop-place.invariant
