use Rattle.rbac_matrix.proofs.WalkLemmas.{not_both}
use Rattle.rbac_matrix.proofs.bound_runs.Runs.fill_runs.Goals as goal

pub returns-clause-bare : goal.returns-clause-bare
returns-clause-bare c = λ bare has. not_both c.has_role_bindings.result bare (c.has_role_bindings.ensures.has.1 (rw c.subjects-subjects.ensures has))
