use Rattle.rbac_matrix.proofs.Elsewhere.{in_every, in_matrix}
use Rattle.rbac_matrix.proofs.laws.repeats_hold_in_the_whole_cluster.Goals as goal

pub returns-clause-matrix : goal.returns-clause-matrix
returns-clause-matrix c = in_matrix

pub returns-clause-every : goal.returns-clause-every
returns-clause-every c = in_every
