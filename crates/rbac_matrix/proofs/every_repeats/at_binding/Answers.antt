use Rattle.rbac_matrix.proofs.every_repeats.at_binding.Goals as goal

pub returns : goal.returns
returns c = record {
  end = c.grants_of-start.result.1;
  of = c.grant-place.ensures.binding;
  own = rw c.policy.ensures at c.grants_of-start.ensures.between;
  ends = rw c.policy.ensures at c.grants_of-start.ensures.upto;
}
