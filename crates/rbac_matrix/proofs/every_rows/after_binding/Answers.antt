use Rattle.std.proofs.Common.{arith, length, ap}
use Rattle.std.proofs.lemmas.Option.{slice_get_within}
use Rattle.rbac_matrix.proofs.every_rows.after_binding.Goals as goal

pub returns : goal.returns
returns c =
    let of = c.grant-place.ensures.binding in
    let within = slice_get_within c.args.index.now.held.bindings c.grant-place.result.binding_place of.0.binding of.2 in
    let e = ap (λ p. length p.held.bindings) c.policy-policy.ensures in
    record {
      at = c.grant-place.result.binding_place;
      start = c.grants_of-end.result.0;
      of = of;
      own = rw c.policy-policy.ensures at c.grants_of-end.ensures.between;
      ends = rw c.policy-policy.ensures at c.grants_of-end.ensures.upto;
      is = grind (arith, within, e);
    }
