use Rattle.std.proofs.Common.{append_assoc}
use Rattle.rbac_lists.proofs.Walks.{named_of_rules}
use Rattle.rbac_lists.proofs.naming.put_named.Goals as goal

pub returns : goal.returns
returns g c =
    let steps = rw (c.in_ok-put_of_roles.ensures, c.roles.ensures.roles, c.cluster_roles.ensures.cluster_roles) at c.in_ok-put_of_cluster_roles.ensures in
    rw (named_of_rules g.N.Naming.named c.args.objects.now) (simp append_assoc at steps)
