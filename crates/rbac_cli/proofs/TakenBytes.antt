-- A run whose writer took some bytes ended so for whatever follows from its having taken them.
use Rattle.std.proofs.Common.{ℕ, List, [], Result, Ok, Err, inl, inr}
use Rattle.rbac_diff.specs.Requests.{RequestView}
use Rattle.rbac_question.specs.declared.command.Command.{Command}
use Rattle.rbac_cli.specs.Ends.{Ends}
use Rattle.rbac_cli.specs.declared.outcome.Status.{Status}
use Rattle.rbac_cli.specs.declared.outcome.RunFault.{RunFault}
use Rattle.rbac_cli.specs.declared.outcome.RunFault.TheVariants.{Load, Universe, Memory, Write}

pub ends_as : (took gained : List ℕ → Type 0) → ((bytes : List ℕ) → took bytes → gained bytes) → (command : Command) (inputs : List (List ℕ)) (log : List RequestView) (ended : Result Status RunFault)
    → Ends took command inputs log ended → Ends gained command inputs log ended
ends_as took gained f command inputs log (Ok status) (l, is, (text, a, t)) = (l, is, (text, a, f text t))
ends_as took gained f command inputs log (Err (Load fault)) a = (a.0, f [] a.1)
ends_as took gained f command inputs log (Err (Universe fault)) a = (a.0, f [] a.1)
ends_as took gained f command inputs log (Err (Memory n)) (inl a) = inl (f [] a.0, a.1)
ends_as took gained f command inputs log (Err (Memory n)) (inr (l, is, (text, status, a, (prefix, begins, t, e)))) = inr (l, is, (text, status, a, (prefix, begins, f prefix t, e)))
ends_as took gained f command inputs log (Err (Write n)) (l, is, (text, status, a, (prefix, begins, t, e))) = (l, is, (text, status, a, (prefix, begins, f prefix t, e)))
