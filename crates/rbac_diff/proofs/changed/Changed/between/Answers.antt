use Rattle.rbac_diff.proofs.changed.Changed.between.Goals as goal

pub returns : goal.returns
returns c = record {
  before = c.in_ok-without_alike.ensures;
  after = c.in_ok-without_alike-2.ensures;
  policies = c.in_ok-gone.ensures.policies;
}
