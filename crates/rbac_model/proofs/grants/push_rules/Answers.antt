use Rattle.std.proofs.Common.{◌≡◌, ◌+◌, ◌∷◌, [], ℕ, add-one, ap, arith, vec_len}
use Rattle.rbac_model.specs.Places.{places_of}
use Rattle.rbac_model.specs.declared.places.GrantPlace.{GrantPlace}
use Rattle.rbac_model.proofs.Listed.{appended}
use Rattle.rbac_model.proofs.grants.push_rules.Goals as goal

one_longer : (old now new more : ℕ) → now ≡ old + more → new ≡ now + 1 → new ≡ old + (more + 1)
one_longer old now new more e f = omega arith

pub loop-rule-preserved : goal.loop-rule-preserved
loop-rule-preserved c =
    let so_far = places_of c.args.binding c.args.role c.loop-rule.rule in
    let one : GrantPlace = record { binding = c.args.binding; role = c.args.role; rule = c.loop-rule.rule } in
    record {
      items = appended c.args.grants.now.items c.loop-rule.grants.items c.push.new.self.items (one ∷ []) so_far (places_of c.args.binding c.args.role (c.loop-rule.rule + 1))
          c.loop-rule.invariant.items c.in_ok-push.ensures.items (ap (places_of c.args.binding c.args.role) (add-one c.loop-rule.rule));
      len = one_longer (vec_len c.args.grants.now) (vec_len c.loop-rule.grants) (vec_len c.push.new.self) c.loop-rule.rule c.loop-rule.invariant.len c.in_ok-push.ensures.len;
    }
