use Rattle.std.proofs.Common.{refl}
use Rattle.rbac_terms.proofs.selecting.selects.Goals as goal

pub returns-then-has_all : goal.returns-then-has_all
returns-then-has_all c = (λ h. (c.if-has_all.ensures.0 refl, c.meets_all.ensures.0 h), λ s. c.meets_all.ensures.1 s.1)
