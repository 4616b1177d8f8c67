use Rattle.std.proofs.Common.{arith, sym}
use Rattle.std.proofs.lemmas.Grind.{common_steps, flat_map-append}
use Rattle.std.proofs.lemmas.List.{append-nil, take_all}
use Rattle.std.proofs.lemmas.List.Elements.{filter-append}
use Rattle.rbac_lists.proofs.naming.put_of_cluster_roles.Goals as goal

pub loop-role-init : goal.loop-role-init
loop-role-init g c = sym (append-nil _)

pub loop-role-preserved : goal.loop-role-preserved
loop-role-preserved g c = grind (arith, common_steps, flat_map-append, filter-append)

pub returns : goal.returns
returns g c = rw (take_all c.loop-role.role-index c.args.roles.now c.loop-role-test.false) at c.loop-role.invariant
