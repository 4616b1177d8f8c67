use Rattle.rbac_terms.proofs.Cases.{on_ok}
use Rattle.rbac_model.proofs.Brought.{if_err, source_rules, source_within, role_added, role_many, sources_added, sources_many}
use Rattle.rbac_model.proofs.grants.put_binding.Goals as goal

pub sources_at-requires-clause-at : goal.sources_at-requires-clause-at
sources_at-requires-clause-at c =
    source_within c.args.objects.now c.args.binding.now c.in-Some-ClusterRoleAt.role (rw c.in-Some-ClusterRoleAt.field-0-is at c.in-Some-ClusterRoleAt.ensures)

pub put_sources-requires-clause-sources : goal.put_sources-requires-clause-sources
put_sources-requires-clause-sources c =
    let ref = rw c.in-Some-ClusterRoleAt.field-0-is at c.in-Some-ClusterRoleAt.ensures in
    rw c.as_slice.ensures.value (source_rules c.args.objects.now c.args.binding.now c.in-Some-ClusterRoleAt.role c.in_ok-sources-in-Some-ClusterRoleAt.sources.items c.in_ok-sources-in-Some-ClusterRoleAt.ensures ref).1

pub returns-in-Some-RoleAt-clause-added : goal.returns-in-Some-RoleAt-clause-added
returns-in-Some-RoleAt-clause-added c =
    let ref = rw c.in-Some-RoleAt.field-0-is at c.in-Some-RoleAt.ensures in
    on_ok c.put_role.result (role_added c.args.objects.now c.args.binding.now c.in-Some-RoleAt.role c.args.at c.requires.at c.args.grants.now.items c.put_role.new.grants.items ref c.requires.held) c.put_role.ensures.ok

pub returns-in-Some-RoleAt-clause-many : goal.returns-in-Some-RoleAt-clause-many
returns-in-Some-RoleAt-clause-many c =
    let ref = rw c.in-Some-RoleAt.field-0-is at c.in-Some-RoleAt.ensures in
    if_err _ _ c.put_role.result (λ e p many. role_many c.args.objects.now c.args.binding.now c.in-Some-RoleAt.role c.args.at c.requires.at _ ref (p many)) c.put_role.ensures.many

pub returns-in_ok-sources-in-Some-ClusterRoleAt-clause-added : goal.returns-in_ok-sources-in-Some-ClusterRoleAt-clause-added
returns-in_ok-sources-in-Some-ClusterRoleAt-clause-added c =
    let ref = rw c.in-Some-ClusterRoleAt.field-0-is at c.in-Some-ClusterRoleAt.ensures in
    on_ok c.put_sources.result (sources_added c.args.objects.now c.args.binding.now c.in-Some-ClusterRoleAt.role c.args.at c.requires.at c.in_ok-sources-in-Some-ClusterRoleAt.sources.items c.in_ok-sources-in-Some-ClusterRoleAt.ensures c.args.grants.now.items c.put_sources.new.grants.items ref c.requires.held)
    (rw c.as_slice.ensures.value at c.put_sources.ensures.ok)

pub returns-in_ok-sources-in-Some-ClusterRoleAt-clause-many : goal.returns-in_ok-sources-in-Some-ClusterRoleAt-clause-many
returns-in_ok-sources-in-Some-ClusterRoleAt-clause-many c =
    let ref = rw c.in-Some-ClusterRoleAt.field-0-is at c.in-Some-ClusterRoleAt.ensures in
    if_err _ _ c.put_sources.result (λ e p many. sources_many c.args.objects.now c.args.binding.now c.in-Some-ClusterRoleAt.role c.args.at c.requires.at c.in_ok-sources-in-Some-ClusterRoleAt.sources.items c.in_ok-sources-in-Some-ClusterRoleAt.ensures _ ref (p many))
    (rw c.as_slice.ensures.value at c.put_sources.ensures.many)
