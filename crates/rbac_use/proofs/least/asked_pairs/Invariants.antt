use Rattle.std.proofs.Common.{◌≡◌, ◌↔◌, Any, Contains, take}
use Rattle.rbac_use.specs.LeastRules.{pair_of}
use Rattle.rbac_use.specs.Requests.{request_of}
use Rattle.rbac_use.specs.declared.grouping.Pair.{Pair}
use Rattle.rbac_use.proofs.least.asked_pairs.Given as goal

abbrev pub invariant-loop-request : goal.invariant-loop-request
invariant-loop-request l = (x : Pair) → Contains l.pairs.items x ↔ Any (λ q. pair_of l.names (request_of q) ≡ x) (take l.request-index l.requests)
