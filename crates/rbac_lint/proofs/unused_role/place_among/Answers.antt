use Rattle.std.proofs.Common.{◌≡◌, ap, arith, length, ◌+◌, ◌-◌}
use Rattle.rbac_lint.proofs.Flags.{among_cluster_roles, among_roles, within_cluster_roles, within_roles}
use Rattle.rbac_lint.proofs.RoleLines.{roles_length}
use Rattle.rbac_lint.proofs.unused_role.place_among.Goals as goal

pub overflow_add-result : goal.overflow_add-result
overflow_add-result c =
    let h = c.args.objects.now in
    omega (arith, roles_length h, c.role_count-count.ensures.count, ap length c.roles.ensures.roles, within_roles h c.args.place c.in-RoleAt.at c.in-RoleAt.is c.requires)

pub overflow_sub-result : goal.overflow_sub-result
overflow_sub-result c = omega (arith, roles_length c.args.objects.now, c.role_count-count.ensures.count, ap length c.roles.ensures.roles)

pub returns-in-ClusterRoleAt : goal.returns-in-ClusterRoleAt
returns-in-ClusterRoleAt c = record {
  within = within_cluster_roles c.args.objects.now c.args.place c.in-ClusterRoleAt.at c.in-ClusterRoleAt.is c.requires;
  held = c.role_count-count.ensures.held;
  same = λ s e. among_cluster_roles c.args.objects.now c.args.place c.in-ClusterRoleAt.at s c.in-ClusterRoleAt.is e;
}

pub returns-in-RoleAt : goal.returns-in-RoleAt
returns-in-RoleAt c =
    let h = c.args.objects.now in
    let n : c.role_count-count.result - length c.roles.result.now + c.in-RoleAt.at ≡ length h.cluster_roles + c.in-RoleAt.at = omega (arith, roles_length h, c.role_count-count.ensures.count, ap length c.roles.ensures.roles) in
    record {
      within = omega (arith, n, within_roles h c.args.place c.in-RoleAt.at c.in-RoleAt.is c.requires);
      held = c.role_count-count.ensures.held;
      same = λ s e. among_roles h c.args.place c.in-RoleAt.at _ s c.in-RoleAt.is e n;
    }
