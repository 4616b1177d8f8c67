use Rattle.std.proofs.Common.{◌≡◌, ◌∙◌, [], List, Some, arith, length, refl, slice_get, subst, sym}
use Rattle.std.proofs.lemmas.Option.{same_Some, slice_get_read}
use Rattle.rbac_terms.specs.declared.granting.Role.{Role}
use Rattle.rbac_terms.specs.declared.matching.Rule.{Rule}
use Rattle.rbac_paths.specs.Takeovers.{AreTakeoversOfEach}
use Rattle.rbac_paths.specs.declared.takeover.Takeover.{Takeover}
use Rattle.rbac_paths.proofs.RuleTakeovers.{each_of, one_more}
use Rattle.rbac_paths.proofs.rule_takeovers.all_of_roles.Goals as goal

pub loop-role-preserved : goal.loop-role-preserved
loop-role-preserved c =
    let steps = c.args.steps.now in
    let roles = c.args.roles.now in
    let i = c.loop-role.role-index in
    let role = c.role-item.result in
    let own_all = c.in_ok-of_each.field-0 in
    let at : slice_get roles i ≡ Some role = slice_get_read roles (length roles) i role refl c.loop-role-test.true c.role-item.is in
    let own = subst (λ (rules : List Rule). AreTakeoversOfEach steps rules own_all) c.as_slice.ensures c.in_ok-of_each.ensures in
    rw c.in_ok-push.ensures.items
    (one_more (List (List Takeover)) Role (λ x ms. AreTakeoversOfEach steps x.rules ms) roles [] i c.loop-role.all.items own_all c.loop-role.invariant
    (λ x there. subst (λ (y : Role). AreTakeoversOfEach steps y.rules own_all) (same_Some role x (sym at ∙ there)) own))

pub returns : goal.returns
returns c =
    let steps = c.args.steps.now in
    let roles = c.args.roles.now in
    let i = c.loop-role.role-index in
    let end : length roles ≡ i = (let test = c.loop-role-test.false in omega (arith, test)) in
    each_of (List (List Takeover)) Role (λ x ms. AreTakeoversOfEach steps x.rules ms) roles [] i c.loop-role.all.items end c.loop-role.invariant
