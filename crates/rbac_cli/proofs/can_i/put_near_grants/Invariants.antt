use Rattle.std.proofs.Common.{◌≡◌, ◌++◌, take}
use Rattle.std.specs.List.{flat_map}
use Rattle.rbac_near.specs.NearLines.{near_line}
use Rattle.rbac_cli.proofs.can_i.put_near_grants.Given as goal

abbrev pub invariant-loop-near : goal.invariant-loop-near
invariant-loop-near l = l.text.items ≡ l.initial.text.items ++ flat_map (near_line l.policy) (take l.near-index l.near-items)
