use Rattle.std.proofs.lemmas.Result.{IfOk-weaker}
use Rattle.rbac_subjects.proofs.PrincipalLemmas.{none_given}
use Rattle.rbac_subjects.proofs.subject_index.SubjectIndex.principals.Goals as goal

pub returns-clause-exact : goal.returns-clause-exact
returns-clause-exact c = rw (← c.self.view_is) c.principals_of.ensures

pub returns-clause-given : goal.returns-clause-given
returns-clause-given c =
    IfOk-weaker c.principals_of.result _ _ (λ found exact. none_given c.self.inside.policy.now.held found.items exact) c.principals_of.ensures
