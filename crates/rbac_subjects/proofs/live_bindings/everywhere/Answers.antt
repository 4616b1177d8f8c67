use Rattle.std.proofs.Common.{arith, inl, inr}
use Rattle.rbac_subjects.proofs.live_bindings.everywhere.Goals as goal

pub returns : goal.returns
returns c = λ at. (λ live. elim live [ inl l ↦ l | inr r ↦ absurd (omega (arith, r)) ], λ l. inl l)
