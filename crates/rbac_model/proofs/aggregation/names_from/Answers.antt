use Rattle.std.proofs.Common.{rules}
use Rattle.rbac_model.proofs.NamesIn.{names_reached, no_names, plain_reached, not_plain}
use Rattle.rbac_model.proofs.aggregation.names_from.Goals as goal

pub returns-then-is_none-clause-reached : goal.returns-then-is_none-clause-reached
returns-then-is_none-clause-reached c =
    rw c.new-then-is_none.ensures (plain_reached c.args.objects.now c.in-Some.at c.args.name.now c.index-roles-at.result c.cluster_roles-roles.ensures.held
    (rw c.cluster_roles-roles.ensures.cluster_roles at c.in-Some.ensures) (rw c.cluster_roles-roles.ensures.cluster_roles at c.index-roles-at.is) (search rules))

pub returns-clause-plain : goal.returns-clause-plain
returns-clause-plain c =
    not_plain c.args.objects.now c.in-Some.at c.args.name.now c.index-roles-at.result c.names_in.result c.cluster_roles-roles.ensures.held
    (rw c.cluster_roles-roles.ensures.cluster_roles at c.in-Some.ensures) (rw c.cluster_roles-roles.ensures.cluster_roles at c.index-roles-at.is) (search rules)

pub returns-clause-reached : goal.returns-clause-reached
returns-clause-reached c =
    names_reached c.args.objects.now c.args.reached.now c.in-Some.at c.args.name.now c.index-reached-at.result c.names_in.result c.cluster_roles-roles.ensures.held c.requires
    (rw c.cluster_roles-roles.ensures.cluster_roles at c.in-Some.ensures) c.index-reached-at.is c.names_in.ensures

pub returns-clause-none : goal.returns-clause-none
returns-clause-none c =
    no_names c.args.objects.now c.in-Some.at c.args.name.now c.names_in.result (rw c.cluster_roles-roles.ensures.cluster_roles at c.in-Some.ensures)
