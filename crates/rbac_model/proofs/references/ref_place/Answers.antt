use Rattle.rbac_model.proofs.Lookups.{role_ref, cluster_role_ref}
use Rattle.rbac_model.proofs.references.ref_place.Goals as goal

pub returns-in_ok-place-in-Role : goal.returns-in_ok-place-in-Role
returns-in_ok-place-in-Role c =
    let there = rw c.in_ok-namespace-in-Role.namespace-is at c.in_ok-namespace-in-Role.ensures.value in
    rw (c.in-Role.is, ← there) (role_ref c.args.objects.now c.in_ok-namespace-in-Role.namespace.now c.in-Role.name c.in_ok-place-in-Role.place (rw c.roles.ensures.roles at c.in_ok-place-in-Role.ensures))

pub returns-in_ok-place-in-ClusterRole : goal.returns-in_ok-place-in-ClusterRole
returns-in_ok-place-in-ClusterRole c =
    rw c.in-ClusterRole.is (cluster_role_ref c.args.objects.now c.args.binding.now.namespace c.in-ClusterRole.name c.in_ok-place-in-ClusterRole.place (rw c.cluster_roles.ensures.cluster_roles at c.in_ok-place-in-ClusterRole.ensures))
