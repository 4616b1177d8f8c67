use Rattle.std.proofs.Common.{◌≡◌, arith}
use Rattle.rbac_paths.proofs.WordsAdded.{adds_each, adds_more}
use Rattle.rbac_paths.proofs.bound_names.add_role_names.Goals as goal

pub loop-role-preserved : goal.loop-role-preserved
loop-role-preserved c =
    adds_more (λ role name. role.name ≡ name) c.args.roles.now c.loop-role.role-index c.role-item.result c.args.names.now.items c.loop-role.names.items c.add_role_name.new.names.items
    c.loop-role-test.true c.role-item.is c.loop-role.invariant c.in_ok-add_role_name.ensures

pub returns : goal.returns
returns c =
    adds_each (λ role name. role.name ≡ name) c.args.roles.now c.loop-role.role-index c.args.names.now.items c.loop-role.names.items
    (let end = c.loop-role-test.false in omega (arith, end)) c.loop-role.invariant
