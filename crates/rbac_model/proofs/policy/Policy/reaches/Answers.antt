use Rattle.std.proofs.Common.{ap, subst}
use Rattle.rbac_model.specs.Policies.{Held, PolicyView}
use Rattle.rbac_model.specs.Places.{AreReachedByEach}
use Rattle.rbac_model.proofs.Stairs.{reached_places}
use Rattle.rbac_model.proofs.policy.Policy.reaches.Goals as goal

pub returns : goal.returns
returns c = record {
  reaches = λ r e.
      let P : Held → Type 0 = λ h. AreReachedByEach h c.self.inside.reached.items in
      let reached = subst P (ap (λ (p : PolicyView). p.held) c.self.view_is) c.self.invariant.3 in
      let i = reached_places c.args.self.now.held c.self.inside.reached.items c.args.from r c.index.result.now reached e c.index.ensures c.args.to in
      (λ h. i.0 (c.has.ensures.0 h), λ m. c.has.ensures.1 (i.1 m));
}
