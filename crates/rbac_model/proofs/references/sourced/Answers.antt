use Rattle.std.proofs.Common.{◌<◌, length, rules}
use Rattle.rbac_terms.specs.declared.granting.ClusterRole.{ClusterRole}
use Rattle.rbac_terms.specs.declared.granting.Role.{Role}
use Rattle.rbac_model.specs.Policies.{InRole, InClusterRole}
use Rattle.rbac_model.proofs.Sourced.{role_within, rule_within, rule_read}
use Rattle.rbac_model.proofs.references.sourced.Goals as goal

pub offset_bounds-roles-at : goal.offset_bounds-roles-at
offset_bounds-roles-at c =
    let l : c.in-RoleAt.at < length c.roles.result.now = rw c.roles.ensures.roles (role_within (λ (r : Role). InRole r) (λ (r : Role). r.rules) c.args.objects.now.roles c.in-RoleAt.at c.args.place (rw c.in-RoleAt.is at c.requires)) in
    search rules

pub bounds-roles-at : goal.bounds-roles-at
bounds-roles-at c = rw c.roles.ensures.roles (role_within (λ (r : Role). InRole r) (λ (r : Role). r.rules) c.args.objects.now.roles c.in-RoleAt.at c.args.place (rw c.in-RoleAt.is at c.requires))

pub offset_bounds-as_slice-place : goal.offset_bounds-as_slice-place
offset_bounds-as_slice-place c =
    let l : c.args.place < length c.as_slice.result.now = rw c.as_slice.ensures (rule_within (λ (r : Role). InRole r) (λ (r : Role). r.rules) c.args.objects.now.roles c.in-RoleAt.at c.args.place (rw c.in-RoleAt.is at c.requires) c.index-roles-at.result (rw c.roles.ensures.roles at c.index-roles-at.is)) in
    search rules

pub bounds-as_slice-place : goal.bounds-as_slice-place
bounds-as_slice-place c = rw c.as_slice.ensures (rule_within (λ (r : Role). InRole r) (λ (r : Role). r.rules) c.args.objects.now.roles c.in-RoleAt.at c.args.place (rw c.in-RoleAt.is at c.requires) c.index-roles-at.result (rw c.roles.ensures.roles at c.index-roles-at.is))

pub returns-in-RoleAt : goal.returns-in-RoleAt
returns-in-RoleAt c =
    rw c.in-RoleAt.is (rule_read (λ (r : Role). InRole r) (λ (r : Role). r.rules) c.args.objects.now.roles c.in-RoleAt.at c.args.place (rw c.in-RoleAt.is at c.requires) c.index-roles-at.result c.index-as_slice-place.result (rw c.roles.ensures.roles at c.index-roles-at.is) (rw c.as_slice.ensures at c.index-as_slice-place.is))

pub offset_bounds-cluster_roles-at : goal.offset_bounds-cluster_roles-at
offset_bounds-cluster_roles-at c =
    let l : c.in-ClusterRoleAt.at < length c.cluster_roles.result.now = rw c.cluster_roles.ensures.cluster_roles (role_within (λ (r : ClusterRole). InClusterRole r) (λ (r : ClusterRole). r.rules) c.args.objects.now.cluster_roles c.in-ClusterRoleAt.at c.args.place (rw c.in-ClusterRoleAt.is at c.requires)) in
    search rules

pub bounds-cluster_roles-at : goal.bounds-cluster_roles-at
bounds-cluster_roles-at c = rw c.cluster_roles.ensures.cluster_roles (role_within (λ (r : ClusterRole). InClusterRole r) (λ (r : ClusterRole). r.rules) c.args.objects.now.cluster_roles c.in-ClusterRoleAt.at c.args.place (rw c.in-ClusterRoleAt.is at c.requires))

pub bounds-as_slice-place-in-ClusterRoleAt : goal.bounds-as_slice-place-in-ClusterRoleAt
bounds-as_slice-place-in-ClusterRoleAt c = rw c.as_slice-in-ClusterRoleAt.ensures (rule_within (λ (r : ClusterRole). InClusterRole r) (λ (r : ClusterRole). r.rules) c.args.objects.now.cluster_roles c.in-ClusterRoleAt.at c.args.place (rw c.in-ClusterRoleAt.is at c.requires) c.index-cluster_roles-at.result (rw c.cluster_roles.ensures.cluster_roles at c.index-cluster_roles-at.is))

pub returns-in-ClusterRoleAt : goal.returns-in-ClusterRoleAt
returns-in-ClusterRoleAt c =
    rw c.in-ClusterRoleAt.is (rule_read (λ (r : ClusterRole). InClusterRole r) (λ (r : ClusterRole). r.rules) c.args.objects.now.cluster_roles c.in-ClusterRoleAt.at c.args.place (rw c.in-ClusterRoleAt.is at c.requires) c.index-cluster_roles-at.result c.index-as_slice-place-in-ClusterRoleAt.result (rw c.cluster_roles.ensures.cluster_roles at c.index-cluster_roles-at.is) (rw c.as_slice-in-ClusterRoleAt.ensures at c.index-as_slice-place-in-ClusterRoleAt.is))
