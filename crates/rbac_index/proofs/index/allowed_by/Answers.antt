use Rattle.rbac_index.proofs.index.allowed_by.Goals as goal

pub returns-clause-exact : goal.returns-clause-exact
returns-clause-exact c = λ n. (
  λ w. (c.in_ok-lists.ensures.exact n).0 ((c.in_ok-merged.ensures.exact n).0 w),
  λ w. (c.in_ok-merged.ensures.exact n).1 ((c.in_ok-lists.ensures.exact n).1 w),
)
