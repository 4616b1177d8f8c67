use Rattle.std.proofs.Common.{◌≡◌, [], List, ℕ, Some, get_or, slice_get, subst}
use Rattle.rbac_terms.specs.declared.granting.ClusterRole.{ClusterRole}
use Rattle.rbac_terms.specs.declared.granting.Role.{Role}
use Rattle.rbac_paths.specs.Takeovers.{AreTakeoversOfEach}
use Rattle.rbac_paths.proofs.RuleTakeovers.{all_have}
use Rattle.rbac_paths.proofs.rule_takeovers.RuleTakeovers.of_roles.Goals as goal

pub returns : goal.returns
returns c =
    let steps = c.args.steps.now in
    let roles = c.in_ok-all_of_roles.field-0.items in
    let clusters = c.in_ok-all_of_cluster_roles.field-0.items in
    all_have c.args.objects.now steps (record { roles = roles; cluster_roles = clusters })
    (subst (λ (rs : List Role). (at : ℕ) (role : Role) → slice_get rs at ≡ Some role → AreTakeoversOfEach steps role.rules (get_or roles at [])) c.roles.ensures.roles c.in_ok-all_of_roles.ensures)
    (subst (λ (rs : List ClusterRole). (at : ℕ) (role : ClusterRole) → slice_get rs at ≡ Some role → AreTakeoversOfEach steps role.rules (get_or clusters at [])) c.cluster_roles.ensures.cluster_roles c.in_ok-all_of_cluster_roles.ensures)
