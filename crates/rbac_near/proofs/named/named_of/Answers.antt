use Rattle.std.proofs.Common.{◌≡◌, ap, arith, length, subst, ℕ}
use Rattle.rbac_near.specs.Named.{AreNamedUpTo}
use Rattle.rbac_near.specs.Near.{request_of}
use Rattle.rbac_near.proofs.NamedOf.{named_of_more}
use Rattle.rbac_near.proofs.named.named_of.Goals as goal

pub loop-place-preserved : goal.loop-place-preserved
loop-place-preserved c = named_of_more c.args.policy.now (request_of c.args.request) c.loop-place.place c.loop-place.found.items c.add_of_binding.new.found.items c.loop-place.invariant c.in_ok-add_of_binding.ensures

pub returns : goal.returns
returns c =
    let p = c.args.policy.now in
    let all : c.loop-place.place ≡ length p.held.bindings = omega (arith, c.loop-place-test.false, ap length c.bindings-places.ensures.bindings, c.loop-place.auto.place-end) in
    record {
      named = subst (λ (n : ℕ). AreNamedUpTo p (request_of c.args.request) n c.loop-place.found.items) all c.loop-place.invariant;
      policy = c.bindings-places.ensures.policy;
    }
