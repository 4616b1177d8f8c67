use Rattle.std.proofs.Common.{arith, length, ◌<◌}
use Rattle.rbac_model.proofs.BindingPlaces.{granted_at, granted_binding}
use Rattle.rbac_model.proofs.policy.Policy.place.Goals as goal

pub returns-clause-grant : goal.returns-clause-grant
returns-clause-grant c =
    let in_range : c.args.no < length c.places.result.now = omega (arith, c.places.ensures.len, c.requires) in
    granted_at c.args.self.now.held c.places.result.now c.args.self.now.grants c.places.ensures.grants c.places.ensures.held c.args.no _ in_range

pub returns-clause-binding : goal.returns-clause-binding
returns-clause-binding c =
    let in_range : c.args.no < length c.places.result.now = omega (arith, c.places.ensures.len, c.requires) in
    granted_binding c.args.self.now.held c.places.result.now c.args.self.now.grants c.places.ensures.grants c.places.ensures.held c.args.no _ in_range
