use Rattle.std.specs.Prelude.{Some}
use Rattle.rbac_paths.specs.Aims.{aim_of}
use Rattle.rbac_paths.proofs.Reasons.{own_role_none, own_role_rule}
use Rattle.rbac_paths.proofs.reason.by_role.Goals as goal

pub returns-in_err-place : goal.returns-in_err-place
returns-in_err-place c = rw c.from_residual.ensures (own_role_none c.args.policy.now c.requires (aim_of c.args.aim) c.args.role.now c.in_err-place.ensures)

pub returns : goal.returns
returns c =
    let first = c.in_ok-place.ensures in
    own_role_rule (aim_of c.args.aim) (Some c.args.role.now.namespace) c.args.policy.now.held c.args.role.now c.in_ok-place.place first.0 first.1
