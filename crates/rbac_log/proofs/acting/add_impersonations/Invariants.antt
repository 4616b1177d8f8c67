use Rattle.std.proofs.Common.{◌≡◌, [], ◌++◌, map, take}
use Rattle.std.specs.Prelude.{codes}
use Rattle.rbac_log.specs.Acting.{impersonation}
use Rattle.rbac_log.proofs.acting.add_impersonations.Given as goal

abbrev pub invariant-loop-group : goal.invariant-loop-group
invariant-loop-group l =
    l.requests.items ≡ l.initial.requests.items ++ map (λ group. impersonation l.user [] (codes "groups") group) (take l.group-index l.group-items)
