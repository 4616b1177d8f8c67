use Rattle.std.proofs.Common.{Bor, take}
use Rattle.rbac_terms.specs.Principals.{Who}
use Rattle.rbac_paths.proofs.PrincipalsWith.{IsWith}
use Rattle.rbac_paths.proofs.principals.principals_with.Given as goal

abbrev pub invariant-loop-who : goal.invariant-loop-who
invariant-loop-who l = IsWith (λ (each : Bor Who). each.now) l.asked l.principals (take l.who-index l.principals) l.all.items
