use Rattle.std.proofs.Common.{inl, inr}
use Rattle.std.proofs.lemmas.Bool.{both_ways}
use Rattle.rbac_matrix.proofs.steps.fits.Goals as goal

pub returns-else-namespaced : goal.returns-else-namespaced
returns-else-namespaced c = (
  λ empty. inr (c.is_empty.ensures.0 empty),
  λ either. elim either [
    | inl namespaced ↦ absurd (both_ways _ c.if-namespaced.false namespaced)
    | inr empty ↦ c.is_empty.ensures.1 empty
  ],
)
