use Rattle.std.proofs.Common.{◌∙◌, sym}
use Rattle.rbac_model.specs.Sources.{grant_of}
use Rattle.rbac_paths.proofs.SameWords.{alike, rules_alike}
use Rattle.rbac_paths.proofs.binding_words.is_same_grant.Goals as goal

pub returns-then-is_same_rule : goal.returns-then-is_same_rule
returns-then-is_same_rule c scope =
    let p = c.args.policy.now in
    let g = grant_of c.grant.result in
    let h = grant_of c.grant-2.result in
    let same = c.is_same_rule.ensures in
    let rule = rules_alike p c.place.result c.place-2.result g h (c.place.ensures.grant ∙ c.grant.ensures.grant) (c.place-2.ensures.grant ∙ c.grant-2.ensures.grant) (same.role c.if-is_same_rule.true) (same.rule c.if-is_same_rule.true) in
    alike p c.args.a c.args.b g h c.grant.ensures.grant c.grant-2.ensures.grant rule (sym c.as_ref.ensures.value ∙ c.is_same_scope.ensures.0 scope ∙ c.as_ref-then-is_same_rule.ensures.value)
